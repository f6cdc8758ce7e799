use Rattle.std.proofs.Common.{◌≡◌, drop}
use Rattle.dnw_zone_file.specs.Steps.{feed_from}
use Rattle.dnw_zone_file.proofs.step.after_feed.Given as goal

-- what is left has the line feed that all has
abbrev pub invariant-loop-at : goal.invariant-loop-at
invariant-loop-at l = feed_from l.at (drop l.at l.text) ≡ feed_from 0 l.text
