use Rattle.std.proofs.Common.{◌≡◌, ◌≤◌, ◌-◌, ◌*◌, ◌/◌, length}
use Rattle.dnw_message_writer.specs.Hints.{eights_from}
use Rattle.dnw_message_writer.proofs.hints.hash_of_eights.Given as goal

-- What is left, from here, gives what all gives from the start.
abbrev pub invariant-eights : goal.invariant-eights
invariant-eights l = record {
  inside : l.index ≤ l.count;
  count_is : l.count ≡ length l.form / 8;
  so_far : eights_from l.count 0 l.form (length l.form) ≡ eights_from (l.count - l.index) (8 * l.index) l.form l.hash;
}

abbrev pub decreases-eights : goal.decreases-eights
decreases-eights l = l.count - l.index
