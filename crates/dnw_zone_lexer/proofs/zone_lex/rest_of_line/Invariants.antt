use Rattle.std.proofs.Common.{◌≡◌, length}
use Rattle.std.specs.Str.{chars}
use denote.Shadow.{shadow}
use denote.Text.{Utf8}
use Rattle.dnw_zone_lexer.specs.Tokens.{rest_of_line, RestOfLine}
use Rattle.dnw_zone_lexer.specs.Lexing.{opens_from}
use Rattle.dnw_zone_lexer.proofs.zone_lex.rest_of_line.Given as goal

abbrev pub invariant-loop-c : goal.invariant-loop-c
invariant-loop-c l = record {
  step : rest_of_line (chars l.text) ≡ rest_of_line (chars l.initial.text);
  opened : opens_from RestOfLine (chars l.text) ≡ opens_from RestOfLine (chars l.initial.text);
  utf8 : shadow (Utf8 l.text);
}

abbrev pub decreases-loop-c : goal.decreases-loop-c
decreases-loop-c l = length l.text
