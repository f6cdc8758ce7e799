use Rattle.std.proofs.Common.{◌≤◌, length}
use Rattle.std.specs.Option.{option_copied}
use Rattle.dnw_zone_data.proofs.FieldLists.{GoOn}
use Rattle.dnw_zone_data.proofs.parsing.parse_fields.Given as goal

-- the fields so far, and those that are left, are all
abbrev pub invariant-loop-kind : goal.invariant-loop-kind
invariant-loop-kind l =
    GoOn (option_copied l.fn.origin) l.place.count l.place.len l.fn.forms l.fn.kinds l.fn.left l.fn.out.items l.forms l.kinds l.left l.out.items
    × (length l.kinds ≤ l.place.count) × (length l.left ≤ l.place.len)

abbrev pub decreases-loop-kind : goal.decreases-loop-kind
decreases-loop-kind l = length l.kinds
