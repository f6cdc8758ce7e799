use Rattle.std.proofs.Common.{◌≡◌, ℕ, List, [], length}
use Rattle.dnw_zone_data.specs.Bitmaps.{with_numbers}
use Rattle.dnw_zone_data.specs.Inside.BitWords.{LeadToBits}
use Rattle.dnw_zone_data.proofs.bitmaps.parse_bits.Given as goal

-- the numbers so far, and what is left
abbrev pub invariant-numbers : goal.invariant-numbers
invariant-numbers l = (ns : List ℕ) × LeadToBits l.shown l.text ns l.left × (l.own.items ≡ with_numbers ns [])

abbrev pub decreases-numbers : goal.decreases-numbers
decreases-numbers l = length l.left
