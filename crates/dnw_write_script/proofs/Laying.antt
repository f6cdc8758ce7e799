-- A record that was written lies at its offset, and is read there.
use Rattle.std.proofs.Common.{◌≡◌, ℕ, ◌+◌, ◌-◌, ◌^◌, ◌<◌, ◌≤◌, ◌&&◌, nat_lt, Bool, true, false, Option, Some, None, List, [], ◌++◌, length, take, drop, slice_range, Ok, refl, sym, ap, ◌∙◌, append_assoc, arith}
use Rattle.std.specs.Int.{w16, to_be_bytes}
use Rattle.std.proofs.lemmas.List.{append-nil, drop_all, drop_at, length-append, take_all, take_at}
use Rattle.std.proofs.lemmas.Nat.{from_be_bytes-to_be_bytes_2, from_be_bytes-to_be_bytes_4}
use Rattle.dnw_base.specs.RecordTypes.{type_code, type_of_code}
use Rattle.dnw_base.specs.DnsClasses.{class_code, class_of_code}
use Rattle.dnw_base.specs.Limits.{max_message}
use Rattle.dnw_base.specs.Names.{encoded_size, wire}
use Rattle.dnw_base.proofs.Wires.{length_wire}
use Rattle.dnw_name_read.specs.Reading.{NameAt}
use Rattle.dnw_name_read.proofs.Back.{slice_range_middle}
use Rattle.dnw_name_read.proofs.Stand.{Reads_append}
use Rattle.dnw_write.specs.Encoder.{Encoder, filled, reserved, written}
use Rattle.dnw_write.specs.EmittedName.{Chooses, Share, emitted, form, in_mode, is_compressed}
use Rattle.dnw_write.specs.EmittingLaws.{frame, frames_follow, take_all_lem}
use Rattle.dnw_write.specs.NameFrames.{frame_name}
use Rattle.dnw_write.proofs.NameBack.{name_is_read}
use Rattle.dnw_write_script.specs.declared.wire_record.WireData.{WireData}
use Rattle.dnw_write_script.specs.declared.wire_record.WireData.TheVariants.{Bytes, Name}
use Rattle.dnw_record.specs.Records.{RecordAt, class_field, fixed_at, length_field, record_of, ttl_field, type_field}
use Rattle.dnw_write_script.specs.WrittenRecords.{EmitsData, wire_fixed}
use Rattle.dnw_write_script.specs.RecordFrames.{frame_data, frame_grows, frame_record, frame_reserved}
use Rattle.dnw_write_script.specs.RecordLaws.{HasBytes, RecordsAreRead, RecordsLie, fixed_and_length}
use Rattle.dnw_write_script.proofs.Parts.{fits_fields}

-- bytes that are written at the end
pub added : (v w : Encoder) (d : List ℕ) → v.offset ≡ length v.bytes → w ≡ written v d → w.bytes ≡ v.bytes ++ d
added v w d e is =
    let front : take v.offset v.bytes ≡ v.bytes = take_all v.offset v.bytes (omega (arith, e)) in
    let behind : drop (v.offset + length d) v.bytes ≡ [] = drop_all (v.offset + length d) v.bytes (omega (arith, e)) in
    ap (λ (x : Encoder). x.bytes) is ∙ (ap (λ (x : List ℕ). x ++ (d ++ drop (v.offset + length d) v.bytes)) front
    ∙ (ap (λ (x : List ℕ). v.bytes ++ (d ++ x)) behind ∙ ap (λ (x : List ℕ). v.bytes ++ x) (append-nil d)))

-- the bytes of a name, whole or with a pointer
pub emitted_bytes : (v : Encoder) (ls : List (List ℕ)) (choice : Option Share) → v.offset ≡ length v.bytes
    → ((emitted v ls choice).bytes ≡ v.bytes ++ form ls choice) × ((emitted v ls choice).offset ≡ v.offset + length (form ls choice))
emitted_bytes v ls None e = (added v (written v (wire ls)) (wire ls) e refl, refl)
emitted_bytes v ls (Some share) e = (ap (λ (x : List ℕ). x ++ form ls (Some share)) (take_all_lem v.offset v.bytes e), refl)

-- a name has all its bytes in a mode without compression
pub full_size : (v : Encoder) (ls : List (List ℕ)) (choice : Option Share) → Chooses v ls choice → is_compressed v.encoding ≡ false
    → length (form ls choice) ≡ encoded_size ls
full_size v ls None chosen not = length_wire ls
full_size v ls (Some share) chosen not =
    let never : false ≡ true = sym (ap (λ (b : Bool). b && nat_lt v.names v.name_limit) not) ∙ chosen.0 in
    absurd cc

-- two zero bytes are at a new placeholder
pub reserved_bytes : (v : Encoder) → v.offset ≡ length v.bytes → (reserved v 2).bytes ≡ v.bytes ++ to_be_bytes w16 0
reserved_bytes v e =
    let two : v.offset + 2 - length v.bytes ≡ 2 = omega (arith, e) in
    rw (take_all (v.offset + 2) v.bytes (omega (arith, e)), two) refl

-- and others once it is filled
pub filled_bytes : (v : Encoder) (b old new rest : List ℕ) (p : ℕ) → v.bytes ≡ b ++ (old ++ rest) → length b ≡ p → length old ≡ length new
    → (filled v p new).bytes ≡ b ++ (new ++ rest)
filled_bytes v b old new rest p is size same =
    let back = drop_at (b ++ old) rest (p + length new) (omega (arith, size, same, length-append b old)) in
    rw (is, take_at b (old ++ rest) p size, ← append_assoc b old rest, back) refl

-- data that are bytes are what follows the length
data_follow : (rdata : WireData) (m u : Encoder) (b front : List ℕ) (p e : ℕ) → m.offset ≡ length m.bytes → EmitsData rdata m (Ok tt) u
    → b ≡ front ++ drop m.offset u.bytes → p ≡ length front → e ≡ p + (u.offset - m.offset) → HasBytes b rdata p e
data_follow (Bytes bytes) m u b front p e at_end h is start ends =
    let d = bytes.items in
    let all : u.bytes ≡ m.bytes ++ d = added m u d at_end h.1 in
    let left : drop m.offset u.bytes ≡ d = ap (drop m.offset) all ∙ drop_at m.bytes d m.offset (sym at_end) in
    let whole : b ≡ front ++ (d ++ []) = is ∙ (ap (λ (x : List ℕ). front ++ x) left ∙ sym (ap (λ (x : List ℕ). front ++ x) (append-nil d))) in
    let offset : u.offset ≡ m.offset + length d = ap (λ (x : Encoder). x.offset) h.1 in
    ap (λ x. slice_range x p e) whole ∙ slice_range_middle front d [] p e start (omega (arith, ends, offset))
data_follow (Name name encoding) m u b front p e at_end h is start ends = tt

pub records_lie : RecordsLie
records_lie r v w e small h =
    let (a, owner, (d, fixed, (room, u, one, is))) = h.1 in
    let eight = wire_fixed r in
    let fa = frame_name r.owner v (Ok tt) a e owner in
    let fd = frame a eight (Ok tt) d fa.ends fixed in
    let fr = frame_reserved d fd.ends in
    let fu = frame_data r.rdata (reserved d 2) (Ok tt) u fr.ends one in
    let both = frames_follow d (reserved d 2) u (Ok tt) fd.ends fr fu in
    let od : d.offset ≡ a.offset + 8 = ap (λ (x : Encoder). x.offset) fixed.1 in
    let ow : w.offset ≡ u.offset = ap (λ (x : Encoder). x.offset) is in
    let longer : d.offset + 2 ≤ length u.bytes = frame_grows (reserved d 2) u (Ok tt) fr.ends fu in
    let two = to_be_bytes w16 (u.offset - (d.offset + 2)) in
    let rest = drop (d.offset + 2) u.bytes in
    let fields = fixed_and_length (type_code r.record_type) (class_code r.class) r.ttl (u.offset - (d.offset + 2)) in
    let before : take d.offset u.bytes ≡ a.bytes ++ eight = both.bytes ∙ added a d eight fa.ends fixed.1 in
    let laid : w.bytes ≡ a.bytes ++ (fields ++ rest) =
    ap (λ (x : Encoder). x.bytes) is ∙ (ap (λ (x : List ℕ). x ++ (two ++ rest)) before ∙ append_assoc a.bytes eight (two ++ rest)) in
    let number : u.offset - (d.offset + 2) ≡ w.offset - (a.offset + 10) = omega (arith, od, ow) in
    let read = name_is_read r.owner v a (omega (arith, e)) owner in
    let front : a.offset + 10 ≡ length (a.bytes ++ fields) = omega (arith, fa.ends, length-append a.bytes fields) in
    record {
      owner_end = a.offset;
      pointers = read.0;
      owner = rw laid (record { reads = Reads_append (fields ++ rest) read.1.reads; fits = read.1.fits });
      order = omega (arith, longer, fu.ends, od, ow);
      few = omega (arith, ((fits_fields r).done v w h.1).1, small);
      fields = ap (λ x. slice_range x a.offset (a.offset + 10)) laid ∙ (slice_range_middle a.bytes fields rest a.offset (a.offset + 10) fa.ends refl
          ∙ ap (fixed_and_length (type_code r.record_type) (class_code r.class) r.ttl) number);
      rdata = data_follow r.rdata (reserved d 2) u w.bytes (a.bytes ++ fields) (a.offset + 10) w.offset fr.ends one
          (laid ∙ sym (append_assoc a.bytes fields rest)) front (omega (arith, longer, fu.ends, od, ow));
      fit = h.0;
      ends = (frame_record r v (Ok tt) w e h).ends;
    }

-- A record is read after an owner with these fields.
pub read_after : (b : List ℕ) (labels : List (List ℕ)) (p o k e kind class ttl : ℕ) → NameAt b p labels o k
    → fixed_at b o ≡ fixed_and_length kind class ttl (e - (o + 10)) → (kind < 2 ^ 16) × (class < 2 ^ 16) × (ttl < 2 ^ 32) → o + 10 ≤ e → e ≤ length b → e ≤ max_message
    → RecordAt b p (record_of b labels o) e × (type_field (fixed_at b o) ≡ type_of_code kind) × (class_field (fixed_at b o) ≡ class_of_code class)
    × (ttl_field (fixed_at b o) ≡ ttl) × (o + 10 + length_field (fixed_at b o) ≡ e)
read_after b labels p o k e kind class ttl owner fields (kind_fits, class_fits, ttl_fits) order within few =
    let len : length_field (fixed_at b o) ≡ e - (o + 10) = ap length_field fields ∙ from_be_bytes-to_be_bytes_2 (e - (o + 10)) (omega (arith, few)) in
    let ends : o + 10 + length_field (fixed_at b o) ≡ e = omega (arith, len, order) in (
      record { labels = labels; owner_end = o; pointers = k; owner_read = owner; rest = omega (arith, ends, within); is = refl; ends = sym ends },
      ap type_field fields ∙ ap type_of_code (from_be_bytes-to_be_bytes_2 kind kind_fits),
      ap class_field fields ∙ ap class_of_code (from_be_bytes-to_be_bytes_2 class class_fits),
      ap ttl_field fields ∙ from_be_bytes-to_be_bytes_4 ttl ttl_fits,
      ends,
    )

pub records_are_read : RecordsAreRead
records_are_read b mode r p e lies =
    let o = lies.owner_end in
    let ends = lies.ends in
    let labels = in_mode mode r.owner.labels in
    let (at, kind, class, ttl, _) =
    read_after b labels p o lies.pointers e (type_code r.record_type) (class_code r.class) r.ttl lies.owner lies.fields lies.fit lies.order (omega (arith, ends)) lies.few in
    (record_of b labels o, at, refl, kind, class, ttl, lies.rdata)
