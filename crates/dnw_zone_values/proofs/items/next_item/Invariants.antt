use Rattle.std.proofs.Common.{◌≡◌, ◌≤◌, length}
use Rattle.dnw_zone_values.specs.CommaLists.{items_from, items_of}
use Rattle.dnw_zone_values.proofs.items.next_item.Given as goal

-- what is left, after the octets so far, has the items of the whole text
abbrev pub invariant-loop-first : goal.invariant-loop-first
invariant-loop-first l = (items_from l.escaped l.item.items l.left ≡ items_of l.text) × (length l.left ≤ length l.text)

abbrev pub decreases-loop-first : goal.decreases-loop-first
decreases-loop-first l = length l.left
