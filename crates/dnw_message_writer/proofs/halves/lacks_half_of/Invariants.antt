use Rattle.std.proofs.Common.{◌≡◌, length, take}
use Rattle.dnw_message_writer.specs.Copying.{lacks_half_of, section_records, sets_of}
use Rattle.dnw_message_writer.specs.Needs.{has_half_in}
use Rattle.dnw_message_writer.proofs.halves.lacks_half_of.Given as goal

abbrev pub invariant-left : goal.invariant-left
invariant-left l =
    has_half_in l.pairs l.count (take l.count (sets_of l.section (section_records l.section l.source))) (sets_of l.section l.left)
    ≡ lacks_half_of l.section l.source l.message

abbrev pub decreases-left : goal.decreases-left
decreases-left l = length l.left
