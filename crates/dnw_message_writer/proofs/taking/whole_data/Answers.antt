use Rattle.std.proofs.Common.{◌≤◌, length, ap, arith}
use Rattle.std.proofs.lemmas.List.{take_rest}
use Rattle.dnw_record.specs.DataCopies.{data_start, record_kinds}
use Rattle.dnw_message_writer.proofs.Taken.{copies_itself}
use Rattle.dnw_message_writer.proofs.taking.whole_data.Goals as goal

pub returns-then-are_data-clause-some : goal.returns-then-are_data-clause-some
returns-then-are_data-clause-some c =
    let x = c.args.item.now in
    let r = c.data_decoder-reader.result in
    let d = data_start x in
    let inside : r.index ≤ length r.bytes = omega (arith, c.index.ensures.within, c.index.ensures.index, ap length c.message.ensures) in
    let within : d.index ≤ length d.bytes = rw c.data_decoder-reader.ensures at inside in
    let has = rw (take_rest c.message.result.now c.index.result, c.message.ensures, c.index.ensures.index, c.data_decoder-reader.ensures, c.kinds.ensures) at (c.are_data.ensures.0 c.if-are_data.true) in
    rw (take_rest c.message.result.now c.index.result, c.message.ensures, c.index.ensures.index, c.data_decoder-reader.ensures) (copies_itself (record_kinds x) d within has)
