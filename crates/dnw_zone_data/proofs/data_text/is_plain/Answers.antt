use Rattle.std.proofs.Common.{ap, arith}
use Rattle.dnw_zone_data.proofs.Wires.{from_start}
use Rattle.dnw_zone_data.proofs.data_text.is_plain.Goals as goal

pub is_written_as-requires-clause-bytes : goal.is_written_as-requires-clause-bytes
is_written_as-requires-clause-bytes c = λ i. omega (arith, c.type_inv.octets i)

pub is_written_as-requires-clause-appends : goal.is_written_as-requires-clause-appends
is_written_as-requires-clause-appends c =
    from_start _ _ c.args.octets.now _ _ _ _ c.in_ok-are_fields.are_fields c.fields_of-kinds.ensures (ap (λ f. f.reader) c.new-fields.ensures) c.new-written.ensures.items
    c.as_slice.ensures.value c.in_ok-are_fields.ensures
