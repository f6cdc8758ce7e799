use Rattle.std.proofs.Common.{◌≡◌}
use Rattle.std.specs.Prelude.{take}
use Rattle.dnw_commands.specs.Inside.Rows.{numbers}
use Rattle.dnw_commands.proofs.zones.sorting.order_of.Given as goal

abbrev pub invariant-loop-row : goal.invariant-loop-row
invariant-loop-row l = l.order.items ≡ take l.row-index (numbers l.row-items)
