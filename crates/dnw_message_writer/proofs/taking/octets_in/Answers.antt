use Rattle.std.proofs.Common.{◌≡◌, ◌≤◌, drop, length, refl, sym, ap, ◌∙◌, arith}
use Rattle.std.proofs.lemmas.List.{append-nil, take_rest}
use Rattle.dnw_record.specs.DataCopies.{data_start, record_kinds}
use Rattle.dnw_message_writer.proofs.Splitting.{of_all}
use Rattle.dnw_message_writer.proofs.Taken.{taken_is_copied, takes_all}
use Rattle.dnw_message_writer.proofs.taking.octets_in.Goals as goal

pub returns : goal.returns
returns c =
    let x = c.args.item.now in
    let r = c.data_decoder-reader.result in
    let d = data_start x in
    let inside : r.index ≤ length r.bytes = omega (arith, c.index.ensures.within, c.index.ensures.index, ap length c.message.ensures) in
    let within : d.index ≤ length d.bytes = rw c.data_decoder-reader.ensures at inside in
    let moved : drop c.index.result c.message.result.now ≡ drop d.index d.bytes = rw (c.message.ensures, c.index.ensures.index, c.data_decoder-reader.ensures) refl in
    let has = rw (take_rest c.message.result.now c.index.result, moved, c.kinds-kinds.ensures) at (c.are_data.ensures.0 c.if-not-are_data.false) in
    let none = rw c.kinds-kinds.ensures at (sym c.are_to_compress.ensures ∙ c.if-are_to_compress.false) in
    let whole = append-nil _ ∙ (take_rest c.message.result.now c.index.result ∙ moved) in
    taken_is_copied x _ (takes_all (record_kinds x) d _ within (of_all (record_kinds x) (drop d.index d.bytes) _ none has whole (λ at. refl)))
