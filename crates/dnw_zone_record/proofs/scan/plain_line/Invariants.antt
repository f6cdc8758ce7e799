use Rattle.std.proofs.Common.{◌≡◌, ◌++◌, ℕ, List, length}
use Rattle.dnw_zone_record.specs.Lines.{line_from, line_of}
use Rattle.dnw_zone_record.proofs.scan.plain_line.Given as goal

-- what is left, after what is before it, makes the line of all
abbrev pub invariant-runs : goal.invariant-runs
invariant-runs l = (so : List ℕ) × (so ++ l.left ≡ l.text) × (line_from so l.place 0 l.left ≡ line_of l.text)

abbrev pub decreases-runs : goal.decreases-runs
decreases-runs l = length l.left
