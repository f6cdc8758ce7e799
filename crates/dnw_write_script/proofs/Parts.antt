-- How many bytes parts and records take, and why they are refused.
use Rattle.std.proofs.Common.{◌≡◌, ℕ, ◌+◌, ◌<◌, ◌≤◌, List, [], ◌∷◌, ◌++◌, length, Option, Some, None, Ok, Err, inl, inr, refl, sym, ap, ◌∙◌, subst, arith}
use Rattle.dnw_base.specs.declared.error.ProtoError.{ProtoError}
use Rattle.dnw_base.specs.declared.error.ProtoError.TheVariants.{CharacterDataTooLong, MaxBufferSizeExceeded, Memory}
use Rattle.dnw_base.specs.Limits.{max_character_data}
use Rattle.dnw_base.specs.Names.{AreLabels, NameValue, encoded_size}
use Rattle.dnw_write.specs.Encoder.{Encoder, TakesRoom, Writes, reserved, written}
use Rattle.dnw_write.specs.declared.encoder.modes.NameEncoding.{NameEncoding}
use Rattle.dnw_write.specs.Emitting.{Outcome}
use Rattle.dnw_write.specs.EmittedName.{Chooses, EmitsAs, EmitsName, Share, in_mode, room_for}
use Rattle.dnw_write.proofs.NameBack.{names_take_no_more, pointers_save, size_in_mode}
use Rattle.dnw_write.proofs.Suffixes.{length_all}
use Rattle.dnw_base.proofs.Wires.{length_wire}
use Rattle.dnw_write_script.specs.declared.wire_record.WireRecord.{WireRecord}
use Rattle.dnw_write_script.specs.declared.wire_record.WireData.{WireData}
use Rattle.dnw_write_script.specs.declared.wire_record.WireData.TheVariants.{Bytes, Name}
use Rattle.dnw_write_script.specs.Parts.{EmitsSized, EmitsWirePart, EmitsWireParts, HasTextOfSize, Then, WirePart, Write, bytes_part, in_encoding, name_part, parts_size, text_part, wire_size}
use Rattle.dnw_write_script.specs.WrittenRecords.{EmitsData, EmitsFields, EmitsWhole, NumbersFit, wire_fixed}
use Rattle.dnw_write_script.specs.RecordLaws.{FailsForSize, RecordsFit, data_size, record_size}

-- ---- what is accepted

-- A write goes on, ends after n bytes at most, and within the maximum, which stays.
abbrev pub EndsWithin : Encoder → ℕ → Encoder → Type 0
EndsWithin v n w = (w.offset ≤ v.offset + n) × (w.offset ≤ v.max_size) × (w.max_size ≡ v.max_size) × (v.offset ≤ w.offset)

pub done_bytes : (d : List ℕ) (v w : Encoder) → Writes v d (Ok tt) w → EndsWithin v (length d) w
done_bytes d v w h =
    let offset = ap (λ (x : Encoder). x.offset) h.1 in
    (omega (arith, offset), omega (arith, offset, h.0), ap (λ (x : Encoder). x.max_size) h.1, omega (arith, offset))

done_as : (v w : Encoder) (ls : List (List ℕ)) (choice : Option Share) → AreLabels ls → Chooses v ls choice → EmitsAs v ls choice (Ok tt) w
    → (w.offset ≤ v.max_size) × (w.max_size ≡ v.max_size) × (v.offset ≤ w.offset)
done_as v w ls None are chosen h =
    let offset = ap (λ (x : Encoder). x.offset) h.1 in
    (omega (arith, h.0, offset, length_wire ls), ap (λ (x : Encoder). x.max_size) h.1, omega (arith, offset))
done_as v w ls (Some share) are (_, points) h =
    let offset = ap (λ (x : Encoder). x.offset) h.1 in (
      omega (arith, h.0, offset, pointers_save v ls share.front share.back share.target are points, length_all ls),
      ap (λ (x : Encoder). x.max_size) h.1,
      omega (arith, offset),
    )

pub done_name : (name : NameValue) (v w : Encoder) → EmitsName name v (Ok tt) w → EndsWithin v (encoded_size name.labels) w
done_name name v w h =
    let (within, same, on) = done_as v w (in_mode v.encoding name.labels) h.choice h.are_labels h.chooses h.written_as in
    (names_take_no_more name v w h, within, same, on)

pub done_part : (part : WirePart) (v w : Encoder) → EmitsWirePart part v (Ok tt) w → EndsWithin v (wire_size part) w
done_part (bytes_part d) v w h = done_bytes d v w h
done_part (text_part text) v w h = done_bytes (length text ∷ text) v w h.1
done_part (name_part mode name) v w (u, h, is) =
    let (le, within, same, on) = done_name name (in_encoding v mode) u h in
    let offset = ap (λ (x : Encoder). x.offset) is in
    (omega (arith, offset, le), omega (arith, offset, within), ap (λ (x : Encoder). x.max_size) is ∙ same, omega (arith, offset, on))

pub done_parts : (parts : List WirePart) (v w : Encoder) → EmitsWireParts parts v (Ok tt) w → w.offset ≤ v.offset + parts_size parts
done_parts [] v w h = omega (arith, ap (λ (x : Encoder). x.offset) h)
done_parts (part ∷ parts) v w (m, one, more) = omega (arith, (done_part part v m one).0, done_parts parts m w more)

-- ---- parts and others after them

pub parts_follow : (parts others : List WirePart) (v m w : Encoder) (outcome : Outcome) → EmitsWireParts parts v (Ok tt) m → EmitsWireParts others m outcome w
    → EmitsWireParts (parts ++ others) v outcome w
parts_follow [] others v m w outcome h more = rw h at more
parts_follow (part ∷ parts) others v m w (Ok tt) (a, one, h) more = (a, one, parts_follow parts others a m w (Ok tt) h more)
parts_follow (part ∷ parts) others v m w (Err error) (a, one, h) more = inr (a, one, parts_follow parts others a m w (Err error) h more)

pub parts_fail : (parts others : List WirePart) (v w : Encoder) (error : ProtoError) → EmitsWireParts parts v (Err error) w → EmitsWireParts (parts ++ others) v (Err error) w
parts_fail [] others v w error h = absurd h
parts_fail (part ∷ parts) others v w error (inl h) = inl h
parts_fail (part ∷ parts) others v w error (inr (a, one, h)) = inr (a, one, parts_fail parts others a w error h)

-- ---- what is refused

-- a failure further on, for more bytes
pub fails_later : (v m : Encoder) (n k : ℕ) (error : ProtoError) → m.offset + k ≤ v.offset + n → m.max_size ≡ v.max_size → FailsForSize m k error → FailsForSize v n error
fails_later v m n k error le same (inl memory) = inl memory
fails_later v m n k error le same (inr (is, less)) = inr (is ∙ ap MaxBufferSizeExceeded same, omega (arith, le, same, less))

pub refused_room : (v done w : Encoder) (n : ℕ) (error : ProtoError) → TakesRoom {A = Unit {0}} v n done (Err error) w → (w ≡ v) × FailsForSize v n error
refused_room v done w n Memory h = (h.2, inl refl)
refused_room v done w n (MaxBufferSizeExceeded size) h = (h.2, inr (ap MaxBufferSizeExceeded h.1, h.0))
refused_room v done w n error h = absurd h

-- no name needs more room than whole
pub room_most : (ls : List (List ℕ)) (choice : Option Share) → room_for ls choice ≤ encoded_size ls
room_most ls None = omega arith
room_most ls (Some share) = omega (arith, length_all ls)

refused_as : (v w : Encoder) (ls : List (List ℕ)) (choice : Option Share) (error : ProtoError) → EmitsAs v ls choice (Err error) w
    → (w ≡ v) × FailsForSize v (encoded_size ls) error
refused_as v w ls choice Memory h = (h.2, inl refl)
refused_as v w ls choice (MaxBufferSizeExceeded size) h = (h.2, inr (ap MaxBufferSizeExceeded h.1, omega (arith, h.0, room_most ls choice)))
refused_as v w ls choice error h = absurd h

pub refused_name : (name : NameValue) (v w : Encoder) (error : ProtoError) → EmitsName name v (Err error) w
    → (w ≡ v) × FailsForSize v (encoded_size name.labels) error
refused_name name v w error h =
    let (same, why) = refused_as v w (in_mode v.encoding name.labels) h.choice error h.written_as in
    (same, subst (λ n. FailsForSize v n error) (size_in_mode v.encoding name.labels) why)

-- Why parts are refused that begin at an offset, with this maximum.
abbrev pub Refuses : ℕ → ℕ → List WirePart → ProtoError → Type 0
Refuses most start parts Memory = Unit {0}
Refuses most start parts (MaxBufferSizeExceeded size) = (size ≡ most) × (most < start + parts_size parts)
Refuses most start parts (CharacterDataTooLong max n) = (max ≡ max_character_data) × (max_character_data < n) × HasTextOfSize n parts
Refuses most start parts error = ⊥

for_size : (part : WirePart) (parts : List WirePart) (v : Encoder) (error : ProtoError) → FailsForSize v (wire_size part) error
    → Refuses v.max_size v.offset (part ∷ parts) error
for_size part parts v error (inl is) = subst (Refuses v.max_size v.offset (part ∷ parts)) (sym is) tt
for_size part parts v error (inr (is, less)) = subst (Refuses v.max_size v.offset (part ∷ parts)) (sym is) (refl, omega (arith, less))

-- a refused part changes nothing
pub refused_part : (part : WirePart) (parts : List WirePart) (v w : Encoder) (error : ProtoError) → EmitsWirePart part v (Err error) w
    → (w ≡ v) × Refuses v.max_size v.offset (part ∷ parts) error
refused_part (name_part mode name) parts v w error (u, h, is) =
    let (same, why) = refused_name name (in_encoding v mode) u error h in
    (is ∙ ap (λ (x : Encoder). in_encoding x v.encoding) same, for_size (name_part mode name) parts v error why)
refused_part (bytes_part d) parts v w error h =
    let (same, why) = refused_room v (written v d) w (length d) error h in
    (same, for_size (bytes_part d) parts v error why)
refused_part (text_part text) parts v w (CharacterDataTooLong max n) h = (h.3, (h.1, omega (arith, h.0, h.2), inl (sym h.2)))
refused_part (text_part text) parts v w error h =
    let (same, why) = refused_room v (written v (length text ∷ text)) w (length (length text ∷ text)) error h.1 in
    (same, for_size (text_part text) parts v error why)

-- what refuses the parts after a part refuses all of them
refuses_all : (part : WirePart) (parts : List WirePart) (most start p : ℕ) (error : ProtoError) → p ≤ start + wire_size part
    → Refuses most p parts error → Refuses most start (part ∷ parts) error
refuses_all part parts most start p Memory le h = tt
refuses_all part parts most start p (MaxBufferSizeExceeded size) le h = (h.0, omega (arith, le, h.1))
refuses_all part parts most start p (CharacterDataTooLong max n) le h = (h.0, h.1, inr h.2)
refuses_all part parts most start p error le h = absurd h

pub refused_parts : (parts : List WirePart) (v w : Encoder) (error : ProtoError) → EmitsWireParts parts v (Err error) w
    → Refuses v.max_size v.offset parts error
refused_parts [] v w error h = absurd h
refused_parts (part ∷ parts) v w error (inl h) = (refused_part part parts v w error h).1
refused_parts (part ∷ parts) v w error (inr (m, one, more)) =
    let (le, _, same, _) = done_part part v m one in
    refuses_all part parts v.max_size v.offset m.offset error le (subst (λ n. Refuses n m.offset parts error) same (refused_parts parts m w error more))

-- ---- writes in turn

-- A write is accepted within n bytes, and refused for its size only if so many have no room. It goes on in any case.
pub record Fits (n : ℕ) (write : Write) : Type 0 where
  pub done : (v w : Encoder) → write v (Ok tt) w → EndsWithin v n w
  pub refused : (v w : Encoder) (error : ProtoError) → write v (Err error) w → (v.offset ≤ w.offset) × FailsForSize v n error

pub fits_as : {n k : ℕ} {write : Write} → n ≡ k → Fits n write → Fits k write
fits_as same fits = rw same at fits

-- a refused write that changes nothing
unchanged : (v w : Encoder) {why : Type 0} → (w ≡ v) × why → (v.offset ≤ w.offset) × why
unchanged v w (same, h) = (omega (arith, ap (λ (x : Encoder). x.offset) same), h)

pub fits_bytes : (d : List ℕ) → Fits (length d) (λ v. Writes v d)
fits_bytes d = record { done = done_bytes d; refused = λ v w error h. unchanged v w (refused_room v (written v d) w (length d) error h) }

pub fits_name : (name : NameValue) → Fits (encoded_size name.labels) (EmitsName name)
fits_name name = record { done = done_name name; refused = λ v w error h. unchanged v w (refused_name name v w error h) }

module _ {n k : ℕ} {first second : Write} (one : Fits n first) (two : Fits k second) where
  then-refused : (v w : Encoder) (error : ProtoError) → Then first second v (Err error) w → (v.offset ≤ w.offset) × FailsForSize v (n + k) error
  then-refused v w error (inl f) = let (on, why) = one.refused v w error f in (on, fails_later v v _ n error (omega arith) refl why)
  then-refused v w error (inr (m, f, s)) =
      let (le, _, same, on) = one.done v m f in
      let (more, why) = two.refused m w error s in
      (omega (arith, on, more), fails_later v m _ k error (omega (arith, le)) same why)

  pub fits-then : Fits (n + k) (Then first second)
  fits-then = record {
    done = λ v w (m, f, s).
        let (le, _, same, on) = one.done v m f in
        let (most, within, still, more) = two.done m w s in
        (omega (arith, le, most), omega (arith, within, same), still ∙ same, omega (arith, on, more));
    refused = then-refused;
  }

module _ {n : ℕ} {write : Write} (fits : Fits n write) where
  sized-refused : (v w : Encoder) (error : ProtoError) → EmitsSized write v (Err error) w → (v.offset ≤ w.offset) × FailsForSize v (2 + n) error
  sized-refused v w error (inl h) =
      let (on, why) = unchanged v w (refused_room v (reserved v 2) w 2 error h) in (on, fails_later v v _ 2 error (omega arith) refl why)
  sized-refused v w error (inr (room, h)) =
      let (on, why) = fits.refused (reserved v 2) w error h in (omega (arith, on), fails_later v (reserved v 2) _ n error (omega arith) refl why)

  pub fits-sized : Fits (2 + n) (EmitsSized write)
  fits-sized = record {
    done = λ v w (room, u, one, is).
        let (le, within, same, on) = fits.done (reserved v 2) u one in
        let offset = ap (λ (x : Encoder). x.offset) is in
        (omega (arith, le, offset), omega (arith, within, offset), ap (λ (x : Encoder). x.max_size) is ∙ same, omega (arith, on, offset));
    refused = sized-refused;
  }

pub fits_name_part : (mode : NameEncoding) (name : NameValue) → Fits (encoded_size name.labels) (EmitsWirePart (name_part mode name))
fits_name_part mode name = record {
  done = done_part (name_part mode name);
  refused = λ v w error (u, h, is).
      let (on, why) = (fits_name name).refused _ u error h in (omega (arith, on, ap (λ (x : Encoder). x.offset) is), why);
}

-- ---- records

pub fits_data : (rdata : WireData) → Fits (data_size rdata) (EmitsData rdata)
fits_data (Bytes bytes) = fits_bytes bytes.items
fits_data (Name name encoding) = record {
  done = λ v w h. (fits_name_part _ name).done v w h;
  refused = λ v w error h. (fits_name_part _ name).refused v w error h;
}

-- a record takes as many bytes as with its names whole at most
pub fits_fields : (r : WireRecord) → Fits (record_size r) (EmitsFields r)
fits_fields r = fits_as (omega arith) (fits-then (fits_name r.owner) (fits-then (fits_bytes (wire_fixed r)) (fits-sized (fits_data r.rdata))))

pub fits_whole : (Fit : Type 0) (n : ℕ) (fields : Write) → Fits n fields
    → ((v w : Encoder) → EmitsWhole Fit fields v (Ok tt) w → w.offset ≤ v.offset + n)
    × ((v w : Encoder) (error : ProtoError) → EmitsWhole Fit fields v (Err error) w → FailsForSize v n error)
fits_whole Fit n fields fits = (λ v w h. (fits.done v w h.1).0, λ v w error (u, h, is). (fits.refused v u error h).1)

pub records_fit : RecordsFit
records_fit r = fits_whole (NumbersFit r) (record_size r) (EmitsFields r) (fits_fields r)
