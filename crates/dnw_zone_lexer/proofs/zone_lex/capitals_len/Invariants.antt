use Rattle.std.proofs.Common.{◌-◌, length}
use Rattle.dnw_zone_lexer.proofs.Cuts.{Scanned}
use Rattle.dnw_zone_lexer.specs.Tokens.{is_no_capital}
use Rattle.dnw_zone_lexer.proofs.zone_lex.capitals_len.Given as goal

abbrev pub invariant-loop-c : goal.invariant-loop-c
invariant-loop-c l = Scanned is_no_capital l.text l.len

abbrev pub decreases-loop-c : goal.decreases-loop-c
decreases-loop-c l = length l.text - l.len
