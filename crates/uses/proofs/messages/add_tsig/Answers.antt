-- A last record is as long as with its owner whole.
use Rattle.std.proofs.Common.{[], ◌∷◌, ap, arith, sym, subst}
use Rattle.dns_names_wire.specs.Words.{AddedRecord, AreLabels, encoded_size, slot_of}
use Rattle.dns_names_wire.specs.declared.message_writer.Piece.TheVariants.{Octets}
use Rattle.uses.proofs.messages.add_tsig.Goals as goal

pub returns : goal.returns
returns c =
    let key = c.wire_labels.result in
    let r : AddedRecord = record { owner = key; record_type = 250; class = 255; ttl = 0; pieces = Octets c.args.data ∷ [] } in
    let grows = c.last_records_are_whole.ensures slot_of _ r c.args.writer.now c.last_record.new.self c.args.message.now c.last_record.new.message
    (subst AreLabels (sym c.wire_labels.ensures.labels) c.wire_labels.ensures.names) (tt, tt) c.in_ok-last_record.ensures.ok in
    let same = ap encoded_size c.wire_labels.ensures.labels in
    (omega (arith, c.encoded_len.ensures.size), omega (arith, grows, same, c.encoded_len.ensures.size))
