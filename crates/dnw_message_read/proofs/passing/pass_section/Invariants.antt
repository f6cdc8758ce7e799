use Rattle.dnw_message_read.specs.Inside.Passing.{IsKnown, PassesItems}
use Rattle.dnw_message_read.proofs.passing.pass_section.Given as goal

abbrev pub invariant-loop-item : goal.invariant-loop-item
invariant-loop-item l =
    PassesItems l.fn.section l.item l.fn.walk.reader l.walk.reader l.fn.walk.left l.walk.left l.found × IsKnown l.walk.reader.bytes l.walk.reader.index l.walk.known
