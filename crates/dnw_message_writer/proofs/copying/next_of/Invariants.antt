use Rattle.std.proofs.Common.{◌≡◌, ◌≤◌, length}
use Rattle.dnw_message_writer.specs.Copying.{sets_of}
use Rattle.dnw_message_writer.specs.declared.section.Section.TheVariants.{Additionals}
use Rattle.dnw_message_writer.proofs.copying.next_of.Given as goal

abbrev pub invariant-records : goal.invariant-records
invariant-records l = (sets_of Additionals l.records ≡ sets_of Additionals l.fn.records) × (length l.records ≤ length l.fn.records)

abbrev pub decreases-records : goal.decreases-records
decreases-records l = length l.records
