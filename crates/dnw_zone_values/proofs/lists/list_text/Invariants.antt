use Rattle.std.proofs.Common.{◌≡◌, ◌≤◌, ℕ, length}
use Rattle.dnw_zone_values.specs.ParamValues.{items_within}
use Rattle.dnw_zone_values.specs.Inside.Steps.{after_these}
use Rattle.dnw_zone_values.proofs.lists.list_text.Given as goal

-- what is left, after the text so far, gives what all gives
abbrev pub invariant-loop-left : goal.invariant-loop-left
invariant-loop-left l =
    (n : ℕ) × (length l.left ≤ n) × (items_within (length l.octets) l.list l.octets ≡ after_these l.text.items (items_within n l.list l.left))

abbrev pub decreases-loop-left : goal.decreases-loop-left
decreases-loop-left l = length l.left
