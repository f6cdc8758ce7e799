use Rattle.std.proofs.Common.{drop}
use Rattle.dnw_message_writer.specs.Hints.{slot_of}
use Rattle.dnw_message_writer.specs.Inside.Turns.{Turned}
use Rattle.dnw_message_writer.specs.Items.{record_form, record_past}
use Rattle.dnw_message_writer.proofs.state.WriterState.add_in_turn.Given as goal

abbrev pub invariant-loop-data : goal.invariant-loop-data
invariant-loop-data l =
    Turned l.section (λ d. record_form slot_of l.owner l.record_type l.class l.ttl d.pieces.now)
    (λ d. record_past slot_of l.owner l.record_type l.class l.ttl d.pieces.now) l.fn.self
    l.fn.message l.fn.set l.self l.message (drop l.data-index l.fn.set)
