use Rattle.std.proofs.Common.{◌≡◌, map, take}
use Rattle.dnw_c_signed.specs.CheckCalls.{row_of}
use Rattle.dnw_c_signed.proofs.zone_checks.rows_of.Given as goal

abbrev pub invariant-loop-one : goal.invariant-loop-one
invariant-loop-one l = l.rows.items ≡ map row_of (take l.one-index l.found)
