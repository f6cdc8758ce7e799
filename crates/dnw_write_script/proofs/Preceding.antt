-- Parts and records keep every candidate before the offset.
use Rattle.std.proofs.Common.{◌≡◌, ℕ, List, [], ◌∷◌, length, Ok, Err, inl, inr, sym, ◌∙◌, subst}
use Rattle.dnw_base.specs.declared.error.ProtoError.{ProtoError}
use Rattle.dnw_base.specs.Names.{NameValue}
use Rattle.dnw_write.specs.Encoder.{CandidatesPrecede, Encoder, Writes, reserved}
use Rattle.dnw_write.specs.EmittedName.{EmitsName}
use Rattle.dnw_write.specs.Marks.{mark_of}
use Rattle.dnw_write.specs.CandidateLaws.{KeepsPreceding}
use Rattle.dnw_write.proofs.Preceding.{names_precede, places_precede, rewinding_undoes, rewinds_precede, texts_precede, writes_precede}
use Rattle.dnw_write_script.specs.declared.wire_record.WireData.TheVariants.{Bytes, Name}
use Rattle.dnw_write_script.specs.Parts.{EmitsSized, EmitsWireParts, Then, Write, bytes_part, in_encoding, name_part, text_part}
use Rattle.dnw_write_script.specs.WrittenRecords.{EmitsData, EmitsFields, EmitsInOrder, EmitsWhole, NumbersFit, data_part, wire_fixed}
use Rattle.dnw_write_script.specs.RecordLaws.{CountedPrecede, DataPrecede, PartPrecedes, PartsPrecede, RecordsPrecede, RefusedRecordsUndo}
use Rattle.dnw_write_script.specs.RecordFrames.{KeepsFrame, frame_fields}
use Rattle.dnw_write_script.proofs.Parts.{refused_room}

pub precede_then : (first second : Write) → KeepsPreceding first → KeepsPreceding second → KeepsPreceding (Then first second)
precede_then first second one two v w (Ok tt) p (m, f, s) = two m w (Ok tt) (one v m (Ok tt) p f) s
precede_then first second one two v w (Err error) p (inl f) = one v w (Err error) p f
precede_then first second one two v w (Err error) p (inr (m, f, s)) = two m w (Err error) (one v m (Ok tt) p f) s

pub precede_sized : (write : Write) → KeepsPreceding write → KeepsPreceding (EmitsSized write)
precede_sized write keeps v w (Ok tt) p (room, u, one, is) = subst CandidatesPrecede (sym is) (keeps (reserved v 2) u (Ok tt) (places_precede v 2 p) one)
precede_sized write keeps v w (Err error) p (inl h) = subst CandidatesPrecede (sym (refused_room v (reserved v 2) w 2 error h).0) p
precede_sized write keeps v w (Err error) p (inr (room, one)) = keeps (reserved v 2) w (Err error) (places_precede v 2 p) one

pub part_precedes : PartPrecedes
part_precedes (bytes_part d) v w outcome p h = writes_precede d v w outcome p h
part_precedes (text_part text) v w outcome p h = texts_precede text v w outcome p h
part_precedes (name_part mode name) v w outcome p (u, h, is) = subst CandidatesPrecede (sym is) (names_precede name (in_encoding v mode) u outcome p h)

pub parts_precede : PartsPrecede
parts_precede [] v w (Ok tt) p h = subst CandidatesPrecede (sym h) p
parts_precede [] v w (Err error) p h = absurd h
parts_precede (part ∷ parts) v w (Ok tt) p (m, one, more) = parts_precede parts m w (Ok tt) (part_precedes part v m (Ok tt) p one) more
parts_precede (part ∷ parts) v w (Err error) p (inl one) = part_precedes part v w (Err error) p one
parts_precede (part ∷ parts) v w (Err error) p (inr (m, one, more)) = parts_precede parts m w (Err error) (part_precedes part v m (Ok tt) p one) more

pub counted_precede : CountedPrecede
counted_precede front back = precede_then (EmitsWireParts front) _ (parts_precede front) (precede_sized (EmitsWireParts back) (parts_precede back))

pub data_precede : DataPrecede
data_precede (Bytes bytes) v w outcome p h = part_precedes (bytes_part bytes.items) v w outcome p h
data_precede (Name name encoding) v w outcome p h = part_precedes (data_part v.encoding v.canonical (Name name encoding)) v w outcome p h

-- fields in order that are written whole or not at all
pub precede_whole : (Fit : Type 0) (owner : NameValue) (fixed : List ℕ) (write : Write) → KeepsPreceding write
    → KeepsPreceding (EmitsWhole Fit (EmitsInOrder owner fixed write))
precede_whole Fit owner fixed write keeps v w (Ok tt) p h =
    let last = precede_then (λ x. Writes x fixed) _ (writes_precede fixed) (precede_sized write keeps) in
    precede_then (EmitsName owner) _ (names_precede owner) last v w (Ok tt) p h.1
precede_whole Fit owner fixed write keeps v w (Err error) p (u, fields, is) = subst CandidatesPrecede (sym is) (rewinds_precede u (mark_of v))

pub records_precede : RecordsPrecede
records_precede r = precede_whole (NumbersFit r) r.owner (wire_fixed r) (EmitsData r.rdata) (data_precede r.rdata)

pub refused_whole_undo : (Fit : Type 0) (fields : Write) → KeepsFrame fields → (v w : Encoder) (error : ProtoError) → v.offset ≡ length v.bytes
    → CandidatesPrecede v → EmitsWhole Fit fields v (Err error) w → w ≡ v
refused_whole_undo Fit fields keeps v w error at_end precede (u, written, is) =
    is ∙ rewinding_undoes v u (Err error) precede (keeps v (Err error) u at_end written)

pub refused_records_undo : RefusedRecordsUndo
refused_records_undo r = refused_whole_undo (NumbersFit r) (EmitsFields r) (frame_fields r)
