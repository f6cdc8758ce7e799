use Rattle.std.proofs.Common.{length}
use Rattle.dnw_message_writer.specs.Copying.{sets_of}
use Rattle.dnw_message_writer.specs.Inside.CopiedSets.{first_of}
use Rattle.dnw_message_writer.proofs.Passing.{InSets}
use Rattle.dnw_message_writer.proofs.state.WriterState.copy_sets.Given as goal

abbrev pub invariant-sets : goal.invariant-sets
invariant-sets l =
    InSets l.section (sets_of l.section l.fn.records) l.fn.self l.fn.message (first_of l.first (sets_of l.section l.records)) l.self l.message

-- each set has a record
abbrev pub decreases-sets : goal.decreases-sets
decreases-sets l = length (first_of l.first (sets_of l.section l.records))
