use Rattle.std.proofs.Common.{◌≡◌, ◌≤◌, ◌+◌, drop, length}
use Rattle.uses.specs.ZoneFiles.{of_type}
use Rattle.uses.proofs.zone_file.count_in.Given as goal

-- Those so far and those that are left are all.
abbrev pub invariant-loop-found : goal.invariant-loop-found
invariant-loop-found l = record {
  all : l.count + length (of_type l.record_type (drop l.found-index l.records)) ≡ length (of_type l.record_type l.records);
  few : l.count ≤ l.found-index;
}
