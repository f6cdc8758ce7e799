use Rattle.std.proofs.Common.{◌≡◌}
use Rattle.std.specs.List.{range_with_len}
use Rattle.dnw_commands.specs.Inside.Rows.{numbers}
use Rattle.dnw_commands.proofs.zones.sorting.rows_of.Given as goal

abbrev pub invariant-loop-number : goal.invariant-loop-number
invariant-loop-number l = numbers l.rows.items ≡ range_with_len 0 l.number
