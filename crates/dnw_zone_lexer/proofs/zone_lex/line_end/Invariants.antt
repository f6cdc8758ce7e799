use Rattle.std.proofs.Common.{◌≡◌, length}
use Rattle.std.specs.Str.{chars}
use denote.Shadow.{shadow}
use denote.Text.{Utf8}
use Rattle.dnw_zone_lexer.specs.Tokens.{line_end}
use Rattle.dnw_zone_lexer.proofs.zone_lex.line_end.Given as goal

abbrev pub invariant-loop-c : goal.invariant-loop-c
invariant-loop-c l = record {
  step : line_end (chars l.text) ≡ line_end (chars l.initial.text);
  utf8 : shadow (Utf8 l.text);
}

abbrev pub decreases-loop-c : goal.decreases-loop-c
decreases-loop-c l = length l.text
