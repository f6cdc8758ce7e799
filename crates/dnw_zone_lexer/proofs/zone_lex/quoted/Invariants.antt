use Rattle.std.proofs.Common.{◌≡◌, [], length}
use Rattle.std.specs.Str.{chars}
use denote.Shadow.{shadow}
use denote.Text.{Utf8}
use Rattle.dnw_zone_lexer.specs.Tokens.{quoted_after, Plain}
use Rattle.dnw_zone_lexer.specs.Lexing.{characters}
use Rattle.dnw_zone_lexer.proofs.zone_lex.quoted.Given as goal

-- what is left, after the text so far, is what all is
abbrev pub invariant-runs : goal.invariant-runs
invariant-runs l = record {
  step : quoted_after (characters l.collected) Plain (chars l.left) ≡ quoted_after [] Plain (chars l.text);
  utf8 : shadow (Utf8 l.left);
}

abbrev pub decreases-runs : goal.decreases-runs
decreases-runs l = length l.left
