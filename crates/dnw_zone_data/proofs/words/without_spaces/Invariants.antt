use Rattle.std.proofs.Common.{◌≡◌, ◌++◌, length}
use Rattle.std.specs.List.{filter}
use Rattle.dnw_zone_data.specs.Words.{is_no_space}
use Rattle.dnw_zone_data.proofs.words.without_spaces.Given as goal

-- what is so far, and what is left, are all
abbrev pub invariant-runs : goal.invariant-runs
invariant-runs l = l.joined.items ++ filter is_no_space l.left ≡ filter is_no_space l.text

abbrev pub decreases-runs : goal.decreases-runs
decreases-runs l = length l.left
