use Rattle.std.proofs.Common.{◌≡◌, false, length}
use Rattle.dnw_message_writer.specs.Copying.{sets_of}
use Rattle.dnw_message_writer.specs.Needs.{has_required}
use Rattle.dnw_message_writer.proofs.missing.has_required.Given as goal

abbrev pub invariant-records : goal.invariant-records
invariant-records l = has_required l.section l.purpose l.out (sets_of l.section l.records) ≡ has_required l.section l.purpose false (sets_of l.section l.fn.records)

abbrev pub decreases-records : goal.decreases-records
decreases-records l = length l.records
