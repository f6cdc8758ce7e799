use Rattle.std.proofs.Common.{◌≡◌, ◌-◌, ◌≤◌, length, take, true}
use Rattle.std.specs.List.{list_all}
use Rattle.dnw_zone_lexer.proofs.Cuts.{fails}
use Rattle.dnw_zone_lexer.specs.Inside.Finds.{is_either}
use Rattle.dnw_zone_lexer.proofs.zone_lex.len_before.Given as goal

-- no byte so far passes
abbrev pub invariant-loop-len : goal.invariant-loop-len
invariant-loop-len l = record {
  few : l.len ≤ length l.bytes;
  none : list_all (fails (is_either l.a l.b)) (take l.len l.bytes) ≡ true;
}

abbrev pub decreases-loop-len : goal.decreases-loop-len
decreases-loop-len l = length l.bytes - l.len
