use Rattle.std.proofs.Common.{◌≡◌, ◌≤◌, ◌+◌, ◌-◌, length, false}
use Rattle.dnw_zone_data.specs.Words.{quoted_len}
use Rattle.dnw_zone_data.proofs.words.quoted_len.Given as goal

abbrev pub invariant-loop-first : goal.invariant-loop-first
invariant-loop-first l =
    (length l.left ≤ length l.text)
    × ((length l.text - length l.left) + quoted_len false l.left ≡ quoted_len false l.text)

abbrev pub decreases-loop-first : goal.decreases-loop-first
decreases-loop-first l = length l.left
