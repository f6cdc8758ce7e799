use Rattle.std.proofs.Common.{length, ap, arith}
use Rattle.std.proofs.lemmas.List.{length-take-le}
use Rattle.dnw_message_writer.specs.Hints.{slot_of}
use Rattle.dnw_message_writer.proofs.Fitting.{none_never, question_fits}
use Rattle.dnw_message_writer.proofs.whole.add_question.Goals as goal

pub returns-then-as_wire-limit-clause-none : goal.returns-then-as_wire-limit-clause-none
returns-then-as_wire-limit-clause-none c =
    let room = c.requires.at in
    let inside = c.requires.limit in
    let before = length-take-le c.args.at c.args.message.now (omega (arith, room, inside)) in
    none_never c.put_question.result _ _ c.put_question.ensures.none
    (question_fits slot_of c.args.limit _ c.args.near c.args.hints.now c.args.name c.as_wire.ensures.labels
    (omega (arith, before, c.if-as_wire-limit.true, room, ap length c.as_wire.ensures.form)))
