use Rattle.std.proofs.Common.{ℕ, ◌≡◌, ◌+◌, ◌<◌, ◌≤◌, ◌++◌, length, take, drop, vec_len, vec_capacity}
use Rattle.dnw_base.specs.Limits.{pointer_reach}
use Rattle.dnw_base.specs.Names.{labels_wire}
use Rattle.dnw_write_suffixes.specs.Candidates.{suffixes}
use Rattle.dnw_write_suffixes.specs.Inside.Store.{AreHeld, held}
use Rattle.dnw_write_suffixes.proofs.store.push_entries.Given as goal

-- what is left, put after what was added, is what was to be added
abbrev pub invariant-suffixes : goal.invariant-suffixes
invariant-suffixes l = record {
  room : vec_len l.entries + l.left ≤ vec_capacity l.entries;
  from : l.from ≤ length l.bytes;
  bytes : drop l.from l.bytes ≡ labels_wire l.labels;
  reached : l.start + length (labels_wire l.labels) < pointer_reach;
  kept : (to : ℕ) → l.end ≤ to → l.start ≤ to → AreHeld (length l.bytes) to l.entries.items;
  items : held l.bytes l.entries.items ++ take l.left (suffixes l.start l.labels)
      ≡ held l.bytes l.initial.entries.items ++ take l.fn.most (suffixes l.fn.start l.fn.labels);
}

abbrev pub decreases-suffixes : goal.decreases-suffixes
decreases-suffixes l = l.left
