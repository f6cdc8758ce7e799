use Rattle.std.proofs.Common.{◌≡◌, ◌≤◌, length}
use Rattle.dnw_zone_data.specs.Words.{after_spaces}
use Rattle.dnw_zone_data.proofs.words.after_spaces.Given as goal

abbrev pub invariant-loop-first : goal.invariant-loop-first
invariant-loop-first l = (after_spaces l.left ≡ after_spaces l.text) × (length l.left ≤ length l.text)

abbrev pub decreases-loop-first : goal.decreases-loop-first
decreases-loop-first l = length l.left
