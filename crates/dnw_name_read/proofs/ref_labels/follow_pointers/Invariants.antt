use Rattle.std.proofs.Common.{◌≡◌}
use Rattle.dnw_name_read.specs.Inside.Found.{labels_at, MoreAt}
use Rattle.dnw_name_read.proofs.ref_labels.follow_pointers.Given as goal

abbrev pub invariant-pointers : goal.invariant-pointers
invariant-pointers l = record {
  more : MoreAt l.message l.position;
  same : labels_at l.message l.position ≡ labels_at l.message l.start;
}

-- a pointer leads back
abbrev pub decreases-pointers : goal.decreases-pointers
decreases-pointers l = l.position
