use Rattle.std.proofs.Common.{◌≡◌, ℕ, List, length}
use Rattle.dnw_zone_values.specs.CommaLists.{items_of}
use Rattle.dnw_zone_values.specs.ParamValues.{AreItems}
use Rattle.dnw_zone_values.specs.Inside.Steps.{after_these}
use Rattle.dnw_zone_values.proofs.lists.parse_list.Given as goal

-- the items so far, and what is left
abbrev pub invariant-items : goal.invariant-items
invariant-items l =
    (done : List (List ℕ)) × (items_of l.text ≡ after_these done (items_of l.left)) × AreItems l.list done l.own.items

abbrev pub decreases-items : goal.decreases-items
decreases-items l = length l.left
