use Rattle.std.proofs.Common.{◌≡◌, length, ap, arith, rules}
use Rattle.std.proofs.lemmas.List.{length-take-le}
use Rattle.dnw_message_writer.specs.Hints.{slot_of}
use Rattle.dnw_message_writer.proofs.Fitting.{none_never, record_fits}
use Rattle.dnw_message_writer.proofs.whole.add_record.Goals as goal

pub returns-then-fit_whole-clause-none : goal.returns-then-fit_whole-clause-none
returns-then-fit_whole-clause-none c =
    let room = c.requires.at in
    let inside = c.requires.limit in
    let ten : length c.record_fields-fields.result ≡ 10 = search rules in
    let before = length-take-le c.args.at c.args.message.now (omega (arith, room, inside)) in
    let fit = c.fit_whole.ensures c.if-fit_whole.true in
    none_never c.put_record.result _ _ c.put_record.ensures.none
    (record_fits slot_of c.args.limit _ c.args.near c.args.hints.now c.args.owner c.record_fields-fields.result c.args.pieces.now _ c.as_wire.ensures.labels ten fit
    (omega (arith, before, c.if-whole-limit.true, room, ap length c.as_wire.ensures.form)))
