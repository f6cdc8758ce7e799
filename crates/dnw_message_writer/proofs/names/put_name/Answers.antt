use Rattle.std.proofs.Common.{length, sym, ap, arith}
use Rattle.std.proofs.lemmas.List.{length-take-le}
use Rattle.dnw_base.proofs.Wires.{length_wire}
use Rattle.dnw_message_writer.proofs.names.put_name.Goals as goal

pub slice_bounds-front-end : goal.slice_bounds-front-end
slice_bounds-front-end c =
    let front = c.spell-spelling.ensures.front in
    let form = c.as_wire-name.ensures.form in
    sym (length-take-le c.spell-spelling.result.front c.as_wire-name.result.now (omega (arith, front, ap length form, length_wire c.args.labels)))
