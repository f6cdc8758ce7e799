-- Records that are kept one after another are those that their offsets give.
use Rattle.std.proofs.Common.{◌≡◌, ℕ, zero, suc, ◌+◌, ◌-◌, ◌<◌, ◌≤◌, ◌==◌, eqb, Bool, true, false, cond, List, [], ◌∷◌, ◌++◌, length, get_or, take, drop, map, refl, sym, ap, ◌∙◌, subst, inl, inr, Result, Ok, arith}
use Rattle.std.proofs.lemmas.Bool.Decides.{nat_tests}
use Rattle.std.proofs.lemmas.Bool.{cases_lt}
use Rattle.std.proofs.lemmas.List.{append-nil, append_assoc, drop_at, get_or-map, get_or_append_left, get_or_default, get_or_push, length-append, length-map, length_push, map_push, take-append-drop, take_at}
use Rattle.std.proofs.lemmas.Bool.Decides.{Decides-eqb}
use Rattle.std.proofs.lemmas.Slice.Eq.{slice_eq-Decides}
use Rattle.std.specs.Cmp.Lexicographic.{pointwise}
use Rattle.std.specs.Result.{IsOkAnd}
use Rattle.std.proofs.lemmas.List.Sums.{sum_by-cons}
use Rattle.std.specs.List.{AllByRecursion}
use Rattle.dns_names_wire.specs.Words.{AreLabels, Decoder, IsLabel, RecordAt, RecordValue, TakesRecord, encoded_size, labels_wire, max_name, put, record_of, wire}
use Rattle.ans_store.specs.Stored.{AreRecordsFrom, AreStoredAt, HasWholeOwner, IsStoredAt, IsTaken, leading_labels, stored_record}

-- ---- a name's wire form begins with its labels

few_labels : (ls : List (List ℕ)) → length ls < encoded_size ls
few_labels [] = omega arith
few_labels (l ∷ ls) = omega (arith, few_labels ls, sum_by-cons (λ (m : List ℕ). length m + 1) l ls)

no_zero : (n : ℕ) → 1 ≤ n → eqb n 0 ≡ false
no_zero n h = grind (arith, nat_tests)

parts : (l : List ℕ) (ls : List (List ℕ)) (rest : List ℕ) → ((l ++ labels_wire ls) ++ 0 ∷ []) ++ rest ≡ l ++ (wire ls ++ rest)
parts l ls rest = simp append_assoc

leading_label : (n : ℕ) (l os rest : List ℕ) → 1 ≤ length l → os ≡ l ++ rest
    → cond (eqb (length l) 0) [] (take (length l) os ∷ leading_labels n (drop (length l) os)) ≡ l ∷ leading_labels n rest
leading_label n l os rest h is = rw (no_zero (length l) h, is, take_at l rest (length l) refl, drop_at l rest (length l) refl) refl

pub leading : (n : ℕ) (ls : List (List ℕ)) (rest : List ℕ) → AllByRecursion IsLabel ls → length ls < n → leading_labels n (wire ls ++ rest) ≡ ls
leading zero ls rest each h = absurd (omega arith)
leading (suc n) [] rest each h = refl
leading (suc n) (l ∷ ls) rest each h =
    leading_label n l (((l ++ labels_wire ls) ++ 0 ∷ []) ++ rest) (wire ls ++ rest) each.0.not_empty (parts l ls rest)
    ∙ ap (λ (more : List (List ℕ)). l ∷ more) (leading n ls rest each.1 (omega arith))

-- ---- a record with its owner whole

left_from : (octets : List ℕ) (offset size : ℕ) → drop offset octets ≡ take (offset + size - offset) (drop offset octets) ++ drop (offset + size - offset) (drop offset octets)
left_from octets offset size = sym (take-append-drop (offset + size - offset) (drop offset octets))

owner_is : (octets : List ℕ) (offset : ℕ) (r : RecordValue) → HasWholeOwner octets offset r → AreLabels r.owner → leading_labels max_name (drop offset octets) ≡ r.owner
owner_is octets offset r whole are =
    let size = encoded_size r.owner in
    let few : length r.owner < max_name = omega (arith, few_labels r.owner, are.fit) in
    ap (leading_labels max_name) (left_from octets offset size ∙ ap (λ (os : List ℕ). os ++ drop (offset + size - offset) (drop offset octets)) whole.form)
    ∙ leading max_name r.owner (drop (offset + size - offset) (drop offset octets)) are.each few

pub stored_is : (octets : List ℕ) (offset end : ℕ) (r : RecordValue) → RecordAt octets offset r end → HasWholeOwner octets offset r → AreLabels r.owner
    → stored_record octets offset ≡ r
unfolding stored_record
stored_is octets offset end r at whole are =
    let start : r.start ≡ at.owner_end + 10 = ap (λ (x : RecordValue). x.start) at.is in
    let ends : offset + encoded_size r.owner ≡ at.owner_end = omega (arith, start, whole.ends) in
    let owner : r.owner ≡ at.labels = ap (λ (x : RecordValue). x.owner) at.is in
    ap (λ (owner : List (List ℕ)). record_of octets owner (offset + encoded_size owner)) (owner_is octets offset r whole are)
    ∙ (ap (record_of octets r.owner) ends ∙ (ap (λ (owner : List (List ℕ)). record_of octets owner at.owner_end) owner ∙ sym at.is))

pub is_stored : (octets : List ℕ) (offset end : ℕ) (r : RecordValue) → RecordAt octets offset r end → HasWholeOwner octets offset r → AreLabels r.owner
    → offset ≤ length octets → IsStoredAt octets offset
is_stored octets offset end r at whole are within =
    record { end = end; stands = subst (λ x. RecordAt octets offset x end) (sym (stored_is octets offset end r at whole are)) at; within = within }

-- ---- one record more

more_records : (octets : List ℕ) (offset : ℕ) (rs : List RecordValue) (next end : ℕ) (r : RecordValue) → AreRecordsFrom octets offset rs next
    → RecordAt octets next r end → HasWholeOwner octets next r → AreRecordsFrom octets offset (rs ++ r ∷ []) end
more_records octets offset [] next end r same at whole =
    (end, subst (λ p. RecordAt octets p r end) (sym same) at, subst (λ p. HasWholeOwner octets p r) (sym same) whole, refl)
more_records octets offset (s ∷ rs) next end r (after, is, ended, rest) at whole = (after, is, ended, more_records octets after rs next end r rest at whole)

pub one_more : (octets : List ℕ) (offsets : List ℕ) (offset end : ℕ) (r : RecordValue) → AreRecordsFrom octets 0 (map (stored_record octets) offsets) offset
    → RecordAt octets offset r end → HasWholeOwner octets offset r → AreLabels r.owner
    → AreRecordsFrom octets 0 (map (stored_record octets) (offsets ++ offset ∷ [])) end
one_more octets offsets offset end r rest at whole are =
    subst (λ (rs : List RecordValue). AreRecordsFrom octets 0 rs end)
    (ap (λ (x : RecordValue). map (stored_record octets) offsets ++ x ∷ []) (sym (stored_is octets offset end r at whole are))
    ∙ sym (map_push (stored_record octets) offsets offset))
    (more_records octets 0 (map (stored_record octets) offsets) offset end r rest at whole)

stored_more : (octets offsets : List ℕ) (offset : ℕ) → AreStoredAt octets offsets → IsStoredAt octets offset → AreStoredAt octets (offsets ++ offset ∷ [])
stored_more octets offsets offset all one k below = elim (cases_lt k (length offsets)) [
  | inl former ↦ subst (IsStoredAt octets) (sym (get_or_append_left offsets (offset ∷ []) 0 k former)) (all k former)
  | inr last ↦
      let same : length offsets ≡ k = omega (arith, length_push offsets offset) in
      subst (IsStoredAt octets) (sym (get_or_push offsets offset 0 k same)) one
]

ends_within : (octets : List ℕ) (offset end : ℕ) (r : RecordValue) → RecordAt octets offset r end → end ≤ length octets
ends_within octets offset end r at =
    omega (arith, at.rest, at.ends, ap (λ (x : RecordValue). x.start) at.is, ap (λ (x : RecordValue). x.len) at.is)

-- What is kept of the records so far.
pub record AreKept (octets offsets : List ℕ) (offset : ℕ) : Type 0 where
  pub within : offset ≤ length octets
  pub stored : AreStoredAt octets offsets
  pub read : AreRecordsFrom octets 0 (map (stored_record octets) offsets) offset

pub kept_more : (octets offsets : List ℕ) (offset end : ℕ) → AreKept octets offsets offset → IsTaken octets offset end → AreKept octets (offsets ++ offset ∷ []) end
kept_more octets offsets offset end kept taken = record {
  within = ends_within octets offset end taken.found taken.stands;
  stored = stored_more octets offsets offset kept.stored (is_stored octets offset end taken.found taken.stands taken.whole taken.labels kept.within);
  read = one_more octets offsets offset end taken.found kept.read taken.stands taken.whole taken.labels;
}

-- ---- a record is read where it is kept

pub reads_stored : (reader : Decoder) (octets : List ℕ) (offset : ℕ) → reader ≡ record { bytes = octets; index = offset }
    → (at : IsStoredAt octets offset) → TakesRecord reader (stored_record octets offset) (record { bytes = octets; index = at.end })
reads_stored reader octets offset is at =
    subst (λ (d : Decoder). TakesRecord d (stored_record octets offset) (record { bytes = octets; index = at.end })) (sym is) (at.end, at.stands, refl)

pub wire_length : (ls : List (List ℕ)) → length (wire ls) ≡ encoded_size ls
wire_length [] = refl
wire_length (l ∷ ls) =
    omega (arith, wire_length ls, ap length (parts l ls []), length-append l (wire ls ++ []), ap length (append-nil (wire ls)), ap length (append-nil (((l ++ labels_wire ls) ++ 0 ∷ []))), sum_by-cons (λ (m : List ℕ). length m + 1) l ls)

-- ---- octets that are compared with a wire form

front_is : (w room out : List ℕ) (n : ℕ) → out ≡ put room w → length w ≡ n → take n out ≡ w
front_is w room out n is long = rw is (take_at w (drop (length w) room) n long)

module _ (octets room out : List ℕ) (start size len offset : ℕ) (r : RecordValue) (owner : List (List ℕ)) (b : Bool) where
  pub whole_owner_iff : owner ≡ r.owner → size ≡ encoded_size owner → len ≡ encoded_size owner → out ≡ put room (wire owner) → offset ≡ r.start
      → offset ≡ start + size + 10 → b ≡ pointwise eqb (take (start + size - start) (drop start octets)) (take len out)
      → (b ≡ true → HasWholeOwner octets start r) × (HasWholeOwner octets start r → b ≡ true)
  whole_owner_iff is sized counted put_is at ends tested =
      let size_is : size ≡ encoded_size r.owner = sized ∙ ap encoded_size is in
      let form : take len out ≡ wire r.owner = front_is (wire owner) room out len put_is (wire_length owner ∙ sym counted) ∙ ap wire is in
      let test = slice_eq-Decides Decides-eqb (take (start + size - start) (drop start octets)) (take len out) b tested in (
        λ yes. record { form = rw (← size_is) (test.0 yes ∙ form); ends = sym at ∙ (ends ∙ ap (λ n. start + n + 10) size_is) },
        λ whole. test.1 (rw (size_is, form) whole.form),
      )

-- ---- the record of a number

-- The reader is at the record of this number.
pub record IsAtRecord (reader : Decoder) (zs : List RecordValue) (number : ℕ) : Type 0 where
  pub found : RecordValue
  pub after : Decoder
  pub takes : TakesRecord reader found after
  pub is : (d : RecordValue) → found ≡ get_or zs number d

pub at_record : (octets offsets : List ℕ) (number offset : ℕ) (reader : Decoder) (zs : List RecordValue) → AreStoredAt octets offsets
    → map (stored_record octets) offsets ≡ zs → number < length zs → offset ≡ get_or offsets number offset
    → reader ≡ record { bytes = octets; index = offset } → IsAtRecord reader zs number
at_record octets offsets number offset reader zs all seen below is at =
    let within : number < length offsets = rw (← length-map offsets (stored_record octets), seen) below in
    let same : offset ≡ get_or offsets number 0 = is ∙ get_or_default offsets number offset 0 within in
    let stored = all number within in
    record {
      found = stored_record octets (get_or offsets number 0);
      after = record { bytes = octets; index = stored.end };
      takes = reads_stored reader octets (get_or offsets number 0) (at ∙ ap (λ n. record { bytes = octets; index = n }) same) stored;
      is = λ d. sym (get_or-map (stored_record octets) offsets number 0 d within) ∙ ap (λ (xs : List RecordValue). get_or xs number d) seen;
    }

-- what holds of a success
pub ok_holds : {T E : Type 0} (P : T → Type 0) (r : Result T E) (x : T) → r ≡ Ok x → IsOkAnd r P → P x
ok_holds {T} {E} P r x is h = subst (λ (s : Result T E). IsOkAnd s P) is h
