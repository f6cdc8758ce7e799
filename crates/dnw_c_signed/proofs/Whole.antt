-- A name that takes as many octets as its wire form follows no pointer.
use Rattle.std.proofs.Common.{◌≡◌, ℕ, ◌+◌, Option, List, refl, sym, ap, subst, arith}
use Rattle.dnw_base.specs.Names.{encoded_size}
use Rattle.dnw_name_read.proofs.Counts.{octets_label}
use Rattle.dnw_name_read.specs.Reading.{NameAt, Reads, label, pointer, zero_octet}
use Rattle.dnw_record.specs.Records.{RecordValue, fixed_size}
use Rattle.dnw_c_signed.specs.RecordCalls.{HasRecordAt}

-- no name has a wire form of two octets
not_two : {b : List ℕ} {p s e k : ℕ} {limit : Option ℕ} {ls : List (List ℕ)} → Reads b p s limit ls e k → encoded_size ls ≡ 2 → ⊥
not_two (zero_octet within octet) two = omega (arith, two)
not_two {b} {p} (label {ls = ls} c within octet some few fits reads) two = omega (arith, two, octets_label b p c ls fits, some)
not_two (pointer high low within octet bits other back reads) two = not_two reads two

no_pointer : {b : List ℕ} {p s e k : ℕ} {limit : Option ℕ} {ls : List (List ℕ)} → Reads b p s limit ls e k → e ≡ p + encoded_size ls → k ≡ 0
no_pointer (zero_octet within octet) same = refl
no_pointer {b} {p} (label {ls = ls} c within octet some few fits reads) same = no_pointer reads (omega (arith, same, octets_label b p c ls fits))
no_pointer (pointer high low within octet bits other back reads) same = absurd (not_two reads (omega (arith, same)))

pub whole_owner : {message : List ℕ} {start : ℕ} {r : RecordValue} → HasRecordAt message start r → r.start ≡ start + encoded_size r.owner + fixed_size
    → (labels : List (List ℕ)) × (end : ℕ) × NameAt message start labels end 0
whole_owner {message} {start} {r} (e, at) same =
    let here : at.owner_end + fixed_size ≡ r.start = sym (ap (λ (x : RecordValue). x.start) at.is) in
    let owner : r.owner ≡ at.labels = ap (λ (x : RecordValue). x.owner) at.is in
    let whole : at.owner_end ≡ start + encoded_size at.labels = omega (arith, here, same, ap encoded_size owner) in
    (at.labels, at.owner_end, subst (NameAt message start at.labels at.owner_end) (no_pointer at.owner_read.reads whole) at.owner_read)
