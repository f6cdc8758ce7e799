-- The records that an RRSIG covers are listed, one by one.
use Rattle.std.proofs.Common.{◌≡◌, ◌≢◌, ◌↔◌, ℕ, suc, ◌+◌, ◌<◌, ◌≤◌, List, [], ◌∷◌, ◌++◌, length, get_or, take, drop, refl, sym, ap, ◌∙◌, subst, append_assoc, arith}
use Rattle.std.proofs.lemmas.List.{append-nil, length-append, length-take-le, take-append-drop, take_all}
use Rattle.std.proofs.Math.Seq.{drop-append_seam, take-suc}
use Rattle.std.specs.List.{flat_map}
use Rattle.dnw_base.specs.Limits.{max_pointers}
use Rattle.dnw_base.specs.Names.{lower, wire}
use Rattle.dnw_name_form.proofs.LowerWires.{AreLabels_lower}
use Rattle.dnw_name_form.proofs.Wires.{IsWire_wire, labels_of_form}
use Rattle.dnw_name_form.specs.Inside.WireBytes.{IsWire, labels_of}
use Rattle.dnw_name_order.specs.Order.{IsZoneOf}
use Rattle.dnw_record.specs.Records.{RecordValue}
use Rattle.dnw_record.specs.declared.rdata.RDataError.TheVariants as rdata
use Rattle.dnw_signed.specs.Covering.{AreCovered, FailsCovered, FirstFails, IsCovered, IsRightRrsig, IsRrsigOf, IsSigned, IsTooLong, LacksCanonical, LacksPointers, Selects, SignsFor, next_record, none_left, signed_head}
use Rattle.dnw_signed.specs.RecordSets.{IsInOrder, set_record}
use Rattle.dnw_data.specs.Signature.{before_signer}
use Rattle.dnw_signed.specs.declared.data_list.DataList.{DataList}
use Rattle.dnw_signed.specs.declared.error.CanonicalError.{CanonicalError}
use Rattle.dnw_signed.specs.declared.error.CanonicalError.TheVariants as why
use Rattle.dnw_signed.specs.Inside.Listing.{HoldsData, data_of}
use Rattle.dnw_signed.specs.Inside.Selecting.{FailsSelected, IsSelecting}

-- ---- the fields that are signed

pub long_fields : {s : RecordValue} {fields : List ℕ} → IsRrsigOf s fields → before_signer ≤ length fields
long_fields r = omega (arith, ap length r.parts.signed, length-append r.parts.fixed (wire (lower r.parts.signer)), r.parts.size)

pub signer_left : {s : RecordValue} {fields : List ℕ} → IsRrsigOf s fields → IsWire (drop before_signer fields)
signer_left {fields = fields} r =
    let is : drop before_signer fields ≡ wire (lower r.parts.signer) =
    ap (λ n. drop n fields) (sym r.parts.size) ∙ ap (λ (x : List ℕ). drop (length r.parts.fixed) x) r.parts.signed
    ∙ drop-append_seam r.parts.fixed (wire (lower r.parts.signer)) in
    subst IsWire (sym is) (IsWire_wire (lower r.parts.signer) (AreLabels_lower r.parts.signer r.parts.are_labels))

pub zone_is : (fields rest : List ℕ) (owner : List (List ℕ)) → rest ≡ drop before_signer fields → IsWire rest → IsZoneOf (labels_of rest) owner ↔ SignsFor fields owner
zone_is fields rest owner same w = (
  λ zone. (labels_of rest, w.labels, sym same ∙ w.spelled, zone),
  λ h. let (signer, are, is, zone) = h in subst (λ ls. IsZoneOf ls owner) (sym (labels_of_form rest signer (same ∙ is) are).1) zone,
)

-- ---- records

pub starts_selecting : (s : RecordValue) (fields : List ℕ) (list : DataList) → HoldsData list → data_of list ≡ [] → IsSelecting s fields [] list max_pointers
starts_selecting s fields list listed none =
    record {
      listed = listed;
      rest = λ others more end h. subst (λ xs. AreCovered s fields others max_pointers xs end) (sym (ap (λ (xs : List (List ℕ)). xs ++ more) none)) h;
      none = λ _. refl;
    }

-- no data are listed, so no pointers are taken
none_taken : (s : RecordValue) (fields : List ℕ) (r : RecordValue) (most left : ℕ) (listed one : List (List ℕ)) → Selects s fields r most one left
    → listed ++ one ≡ [] → (listed ≡ [] → most ≡ max_pointers) → left ≡ max_pointers
none_taken s fields r most left [] [] selects empty none = selects.1 ∙ none refl
none_taken s fields r most left [] (octets ∷ more) selects empty none = let no : octets ∷ more ≡ [] = empty in cc
none_taken s fields r most left (octets ∷ listed) one selects empty none = let no : octets ∷ (listed ++ one) ≡ [] = empty in cc

pub selects_on : {s : RecordValue} {fields : List ℕ} {done now : List RecordValue} {before after : DataList} {most left : ℕ} (r : RecordValue) (one : List (List ℕ))
    → IsSelecting s fields done before most → now ≡ done ++ r ∷ [] → Selects s fields r most one left → HoldsData after → data_of after ≡ data_of before ++ one
    → IsSelecting s fields now after left
selects_on {s} {fields} {done} {now} {before} {after} {most} {left} r one c is selects listed grown =
    record {
      listed = listed;
      rest = λ later more end h.
          subst (λ rs. AreCovered s fields rs max_pointers (data_of after ++ more) end) (sym (ap (λ rs. rs ++ later) is ∙ append_assoc done (r ∷ []) later))
          (subst (λ xs. AreCovered s fields (done ++ r ∷ later) max_pointers xs end)
          (sym (ap (λ (xs : List (List ℕ)). xs ++ more) grown ∙ append_assoc (data_of before) one more))
          (c.rest (r ∷ later) (one ++ more) end (next_record r later most left end one more selects h)));
      none = λ empty. none_taken s fields r most left (data_of before) one selects (sym grown ∙ empty) c.none;
    }

-- the record that is looked at, and those before and after it
pub before_next : (records : List RecordValue) (r : RecordValue) (k : ℕ) → r ≡ get_or records k r → k < length records → take (k + 1) records ≡ take k records ++ r ∷ []
before_next records r k is less =
    let more : k + 1 ≡ suc k = omega arith in
    ap (λ n. take n records) more ∙ take-suc records k r less ∙ ap (λ x. take k records ++ x ∷ []) (sym is)

pub selects_next : {s : RecordValue} {fields : List ℕ} {before after : DataList} {most left : ℕ} (records : List RecordValue) (k : ℕ) (r : RecordValue) (one : List (List ℕ))
    → IsSelecting s fields (take k records) before most → r ≡ get_or records k r → k < length records → Selects s fields r most one left → HoldsData after
    → data_of after ≡ data_of before ++ one → IsSelecting s fields (take (k + 1) records) after left
selects_next records k r one c is less selects listed grown =
    selects_on r one c (before_next records r k is less) selects listed grown

pub all_selected : {s : RecordValue} {fields : List ℕ} {done : List RecordValue} {list : DataList} {left : ℕ} → IsSelecting s fields done list left
    → AreCovered s fields done max_pointers (data_of list) left
all_selected {s} {fields} {done} {list} {left} c =
    subst (λ rs. AreCovered s fields rs max_pointers (data_of list) left) (append-nil done)
    (subst (λ xs. AreCovered s fields (done ++ []) max_pointers xs left) (append-nil (data_of list)) (c.rest [] [] left (none_left left)))

first_fails : {s : RecordValue} {fields : List ℕ} {records done : List RecordValue} {list : DataList} {left number : ℕ} (r : RecordValue)
    (others : List RecordValue) (reason : RecordValue → ℕ → Type 0) → IsSelecting s fields done list left → records ≡ done ++ r ∷ others → number ≡ length done → IsCovered s fields r → reason r left
    → FirstFails s fields records number reason
first_fails {done = done} {list = list} {left = left} r others reason c split at covered fails =
    record {
      before = done;
      r = r;
      after = others;
      split = split;
      count = sym at;
      all = data_of list;
      left = left;
      done = all_selected c;
      covered = covered;
      fails = fails;
    }

pub selecting_fails : {s : RecordValue} {fields : List ℕ} {records done : List RecordValue} {list : DataList} {left number : ℕ} (r : RecordValue)
    (others : List RecordValue) (error : CanonicalError) → IsSelecting s fields done list left → records ≡ done ++ r ∷ others → number ≡ length done → IsCovered s fields r
    → FailsSelected r left number error → FailsCovered s fields records error
selecting_fails r others (why.Field number error) c split at covered (same, fails) =
    first_fails r others (LacksCanonical (rdata.Field error)) c split (same ∙ at) covered fails
selecting_fails r others (why.DataTooLong number) c split at covered (same, fails) = first_fails r others IsTooLong c split (same ∙ at) covered fails
selecting_fails r others (why.TooManyPointers number) c split at covered (same, fails) = first_fails r others LacksPointers c split (same ∙ at) covered fails
selecting_fails r others why.Memory c split at covered fails = tt
selecting_fails r others why.NoRecords c split at covered fails = absurd fails
selecting_fails r others why.TooFewLabels c split at covered fails = absurd fails
selecting_fails r others (why.NotInSet number) c split at covered fails = absurd fails
selecting_fails r others why.NotRrsig c split at covered fails = absurd fails
selecting_fails r others (why.RrsigField error) c split at covered fails = absurd fails

pub next_fails : {s : RecordValue} {fields : List ℕ} {list : DataList} {left number : ℕ} (records : List RecordValue) (k : ℕ) (r : RecordValue)
    (error : CanonicalError) → IsSelecting s fields (take k records) list left → r ≡ get_or records k r → k < length records → number ≡ k → IsCovered s fields r
    → FailsSelected r left number error → FailsCovered s fields records error
next_fails records k r error c is less at covered fails =
    let split : records ≡ take k records ++ r ∷ drop (k + 1) records =
    sym (take-append-drop (k + 1) records) ∙ ap (λ (xs : List RecordValue). xs ++ drop (k + 1) records) (before_next records r k is less)
    ∙ append_assoc (take k records) (r ∷ []) (drop (k + 1) records) in
    let count : length (take k records) ≡ k = length-take-le k records (omega (arith, less)) in
    selecting_fails r (drop (k + 1) records) error c split (at ∙ sym count) covered fails

pub all_done : {s : RecordValue} {fields : List ℕ} {records : List RecordValue} {list : DataList} {left : ℕ} (k : ℕ) → IsSelecting s fields (take k records) list left
    → length records ≤ k
    → HoldsData list × (end : ℕ) × AreCovered s fields records max_pointers (data_of list) end × (data_of list ≡ [] → end ≡ max_pointers)
all_done {s} {fields} {records} {list} {left} k c all =
    (c.listed, left, subst (λ rs. AreCovered s fields rs max_pointers (data_of list) left) (take_all k records all) (all_selected c), c.none)

-- ---- what is signed

pub signs : (s : RecordValue) (records : List RecordValue) (fields head own : List ℕ) (all sorted : List (List ℕ)) (left : ℕ) → IsRightRrsig s fields
    → AreCovered s fields records max_pointers all left → all ≢ [] → IsInOrder all sorted → head ≡ signed_head s fields → own ≡ fields ++ flat_map (set_record head) sorted
    → IsSigned s records own
signs s records fields head own all sorted left right covered some in_order head_is is =
    record {
      fields = fields;
      rrsig = right;
      all = all;
      left = left;
      covered = covered;
      some = some;
      sorted = sorted;
      in_order = in_order;
      joined = is ∙ ap (λ h. fields ++ flat_map (set_record h) sorted) head_is;
    }
