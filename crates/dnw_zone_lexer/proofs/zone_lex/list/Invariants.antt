use Rattle.std.proofs.Common.{◌≡◌, [], length, map}
use Rattle.std.specs.Str.{chars}
use denote.Shadow.{shadow}
use denote.Text.{Utf8}
use Rattle.dnw_zone_lexer.specs.Tokens.{list_after, Between}
use Rattle.dnw_zone_lexer.specs.Lexing.{characters}
use Rattle.dnw_zone_lexer.proofs.zone_lex.list.Given as goal

-- what is left, after the words so far, is what all is
abbrev pub invariant-loop-c : goal.invariant-loop-c
invariant-loop-c l = record {
  step : list_after (map characters l.words.items) Between (chars l.left) ≡ list_after [] Between (chars l.text);
  utf8 : shadow (Utf8 l.left);
}

abbrev pub decreases-loop-c : goal.decreases-loop-c
decreases-loop-c l = length l.left
