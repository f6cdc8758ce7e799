use Rattle.std.proofs.Common.{◌≡◌, ◌≤◌, List, ℕ, ◌++◌, length}
use Rattle.dnw_zone_values.specs.Strings.{Plain, octets_from}
use Rattle.dnw_zone_values.specs.Inside.Takes.{after}
use Rattle.dnw_zone_values.proofs.string.push_octets.Given as goal

-- what is left, after the octets so far, gives what all gives
abbrev pub invariant-runs : goal.invariant-runs
invariant-runs l =
    (found : List ℕ) × (octets_from l.quoted Plain l.text ≡ after found (octets_from l.quoted Plain l.left)) × (l.count ≡ length found)
    × (l.count ≤ l.max) × (l.octets.items ≡ l.fn.octets.items ++ found)

abbrev pub decreases-runs : goal.decreases-runs
decreases-runs l = length l.left
