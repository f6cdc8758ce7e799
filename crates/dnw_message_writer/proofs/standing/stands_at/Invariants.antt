use Rattle.std.proofs.Common.{◌↔◌, ◌≤◌, length}
use Rattle.dnw_message_writer.specs.Standing.{StandsSettled, StandsFrom}
use Rattle.dnw_message_writer.proofs.standing.stands_at.Given as goal

abbrev pub invariant-labels : goal.invariant-labels
invariant-labels l = record {
  same : StandsSettled l.message l.gap l.start l.fn.labels ↔ StandsFrom l.message l.gap l.spot l.rest;
  limit : l.spot.limit ≤ length l.message;
  order : l.spot.segment ≤ l.spot.position;
}

-- a label is taken
abbrev pub decreases-labels : goal.decreases-labels
decreases-labels l = length l.rest
