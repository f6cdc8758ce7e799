-- The only record that an RRSIG covers.
use Rattle.std.proofs.Common.{◌≡◌, ◌≢◌, ◌-◌, drop, ℕ, ◌+◌, ◌<◌, false, is_some, Option, Some, None, List, [], ◌∷◌, ◌++◌, length, get_or, take, refl, sym, ap, ◌∙◌, subst, append_assoc, arith}
use Rattle.std.proofs.lemmas.List.{append-nil, length-drop, length-take-le, take_all}
use Rattle.std.proofs.Math.Seq.{drop-append_seam}
use Rattle.std.specs.List.Sorted.{IsStrictlySortedBy}
use Rattle.std.specs.Borrow.{Bor}
use Rattle.std.specs.List.{flat_map}
use Rattle.dnw_base.specs.Limits.{max_pointers}
use Rattle.dnw_record.specs.Records.{RecordValue}
use Rattle.dnw_record.specs.declared.rdata.RDataError.TheVariants as rdata
use Rattle.dnw_base.specs.DnsClasses.{class_code}
use Rattle.dnw_signed.specs.Covering.{AreCovered, FailsCovered, FirstFails, IsCovered, IsRightRrsig, IsSigned, IsTooLong, LacksCanonical, LacksPointers, label_count, next_record, none_left, original_ttl, signed_head, type_covered}
use Rattle.dnw_signed.specs.RecordSets.{IsInOrder, set_record}
use Rattle.dnw_signed.specs.declared.set.SetHead.{SetHead}
use Rattle.dnw_signed.specs.Inside.Heads.{head_with}
use Rattle.dnw_signed.specs.declared.error.CanonicalError.{CanonicalError}
use Rattle.dnw_signed.specs.declared.error.CanonicalError.TheVariants as why
use Rattle.dnw_signed.specs.Inside.Selecting.{FailsSelected, HasCanonical, IsOnlyCovered, NoneCovered, OnlyFound}
use Rattle.dnw_signed.proofs.Selecting.{before_next, signs}

-- ---- none

none_on : {s : RecordValue} {fields : List ℕ} (done : List RecordValue) (r : RecordValue) → NoneCovered s fields done → (¬ (IsCovered s fields r))
    → NoneCovered s fields (done ++ r ∷ [])
none_on [] r none not = (not, tt)
none_on (d ∷ done) r (first, none) not = (first, none_on done r none not)

pub none_are : {s : RecordValue} {fields : List ℕ} (records : List RecordValue) (left : ℕ) → NoneCovered s fields records
    → AreCovered s fields records left [] left
none_are [] left none = none_left left
none_are (r ∷ records) left (first, none) = next_record r records left left left [] [] (first, refl) (none_are records left none)

-- ---- one

first_found : {s : RecordValue} {fields : List ℕ} (done : List RecordValue) (r : RecordValue) (number : ℕ) → NoneCovered s fields done → length done ≡ number
    → IsCovered s fields r → IsOnlyCovered s fields (done ++ r ∷ []) number r
first_found done r number none count covered =
    record { before = done; after = []; split = refl; count = count; covered = covered; none_before = none; none_after = tt }

found_on : {s : RecordValue} {fields : List ℕ} {done : List RecordValue} {r : RecordValue} {number : ℕ} (other : RecordValue) → IsOnlyCovered s fields done number r
    → (¬ (IsCovered s fields other)) → IsOnlyCovered s fields (done ++ other ∷ []) number r
found_on {r = r} other c not =
    record {
      before = c.before;
      after = c.after ++ other ∷ [];
      split = ap (λ (xs : List RecordValue). xs ++ other ∷ []) c.split ∙ append_assoc c.before (r ∷ c.after) (other ∷ []);
      count = c.count;
      covered = c.covered;
      none_before = c.none_before;
      none_after = none_on c.after other c.none_after not;
    }

pub passes : {s : RecordValue} {fields : List ℕ} (records : List RecordValue) (k : ℕ) (r : RecordValue) (only : Option (ℕ × Bor RecordValue))
    → r ≡ get_or records k r → k < length records → OnlyFound s fields (take k records) only → (¬ (IsCovered s fields r))
    → OnlyFound s fields (take (k + 1) records) only
passes records k r None is less none not = rw (before_next records r k is less) (none_on (take k records) r none not)
passes records k r (Some (number, one)) is less c not = rw (before_next records r k is less) (found_on r c not)

pub finds : {s : RecordValue} {fields : List ℕ} (records : List RecordValue) (k : ℕ) (r : RecordValue) → r ≡ get_or records k r → k < length records
    → NoneCovered s fields (take k records) → IsCovered s fields r → IsOnlyCovered s fields (take (k + 1) records) k r
finds records k r is less none covered =
    rw (before_next records r k is less) (first_found (take k records) r k none (length-take-le k records (omega (arith, less))) covered)

pub none_so_far : (s : RecordValue) (fields : List ℕ) (done : List RecordValue) (only : Option (ℕ × Bor RecordValue)) → is_some only ≡ false
    → OnlyFound s fields done only → NoneCovered s fields done
none_so_far s fields done None empty found = found
none_so_far s fields done (Some one) empty found = cc

-- ---- its data

one_after : {s : RecordValue} {fields : List ℕ} (before : List RecordValue) (r : RecordValue) (after : List RecordValue) (octets : List ℕ) (c : HasCanonical r octets)
    → NoneCovered s fields before → NoneCovered s fields after → IsCovered s fields r → AreCovered s fields (before ++ r ∷ after) max_pointers (octets ∷ []) c.0
one_after [] r after octets (end, takes, is, short) none others covered =
    next_record r after max_pointers end end (octets ∷ []) [] (covered, takes, is, short) (none_are after end others)
one_after (b ∷ before) r after octets c (first, none) others covered =
    next_record b (before ++ r ∷ after) max_pointers max_pointers c.0 [] (octets ∷ []) (first, refl) (one_after before r after octets c none others covered)

pub only_are : {s : RecordValue} {fields : List ℕ} {records : List RecordValue} {number : ℕ} {r : RecordValue} {octets : List ℕ}
    → IsOnlyCovered s fields records number r → (c : HasCanonical r octets) → AreCovered s fields records max_pointers (octets ∷ []) c.0
only_are {s} {fields} {r = r} {octets = octets} o c =
    subst (λ rs. AreCovered s fields rs max_pointers (octets ∷ []) c.0) (sym o.split) (one_after o.before r o.after octets c o.none_before o.none_after o.covered)

fails_first : {s : RecordValue} {fields : List ℕ} {records : List RecordValue} {number : ℕ} {r : RecordValue} (reason : RecordValue → ℕ → Type 0)
    → IsOnlyCovered s fields records number r → reason r max_pointers → FirstFails s fields records number reason
fails_first {r = r} reason o fails =
    record {
      before = o.before;
      r = r;
      after = o.after;
      split = o.split;
      count = o.count;
      all = [];
      left = max_pointers;
      done = none_are o.before max_pointers o.none_before;
      covered = o.covered;
      fails = fails;
    }

pub only_fails : {s : RecordValue} {fields : List ℕ} {records : List RecordValue} {number : ℕ} {r : RecordValue} (error : CanonicalError)
    → IsOnlyCovered s fields records number r → FailsSelected r max_pointers number error → FailsCovered s fields records error
only_fails (why.Field at error) o (same, fails) = rw same (fails_first (LacksCanonical (rdata.Field error)) o fails)
only_fails (why.DataTooLong at) o (same, fails) = rw same (fails_first IsTooLong o fails)
only_fails (why.TooManyPointers at) o (same, fails) = rw same (fails_first LacksPointers o fails)
only_fails why.Memory o fails = tt
only_fails why.NoRecords o fails = absurd fails
only_fails why.TooFewLabels o fails = absurd fails
only_fails (why.NotInSet at) o fails = absurd fails
only_fails why.NotRrsig o fails = absurd fails
only_fails (why.RrsigField error) o fails = absurd fails

-- ---- what is signed

one_in_order : (octets : List ℕ) → IsInOrder (octets ∷ []) (octets ∷ [])
unfolding IsStrictlySortedBy
one_in_order octets = record { ascend = (tt, tt); each = λ own there. there; every = λ own there. there }

pub signs_only : {s : RecordValue} {records : List RecordValue} {fields : List ℕ} {number : ℕ} {r : RecordValue} (before new head : List ℕ)
    → IsRightRrsig s fields → IsOnlyCovered s fields records number r → head ≡ signed_head s fields
    → (octets : List ℕ) × HasCanonical r octets × (new ≡ before ++ set_record head octets)
    → (own : List ℕ) × IsSigned s records (fields ++ own) × (new ≡ before ++ own)
signs_only {s} {records} {fields} before new head right only head_is (octets, has, is) =
    let own = set_record head octets in (
      own,
      signs s records fields head (fields ++ own) (octets ∷ []) (octets ∷ []) has.0 right (only_are only has) (λ (none : octets ∷ [] ≡ []). cc) (one_in_order octets) head_is
          (ap (λ (x : List ℕ). fields ++ x) (sym (append-nil own))),
      is,
    )

pub signs_list : {s : RecordValue} {records : List RecordValue} {fields : List ℕ} {all : List (List ℕ)} {left : ℕ} (before new head : List ℕ)
    → IsRightRrsig s fields → AreCovered s fields records max_pointers all left → all ≢ [] → head ≡ signed_head s fields
    → (sorted : List (List ℕ)) × IsInOrder all sorted × (new ≡ before ++ flat_map (set_record head) sorted)
    → (own : List ℕ) × IsSigned s records (fields ++ own) × (new ≡ before ++ own)
signs_list {s} {records} {fields} {all} {left} before new head right covered some head_is (sorted, in_order, is) =
    let own = flat_map (set_record head) sorted in
    (own, signs s records fields head (fields ++ own) all sorted left right covered some in_order head_is refl, is)

-- ---- where they are

pub part_is : (octets items : List ℕ) (start : ℕ) → octets ≡ items → take (length octets - start) (drop start octets) ≡ drop start items
part_is octets items start is =
    take_all (length octets - start) (drop start octets) (omega (arith, length-drop start octets)) ∙ ap (λ (x : List ℕ). drop start x) is

pub after_start : (before own items : List ℕ) (start : ℕ) → items ≡ before ++ own → start ≡ length before → drop start items ≡ own
after_start before own items start is at =
    ap (λ n. drop n items) at ∙ ap (λ (x : List ℕ). drop (length before) x) is ∙ drop-append_seam before own

pub head_is : (s : RecordValue) (fields own : List ℕ) (head : SetHead) → own ≡ fields → head.code ≡ type_covered own → head.class ≡ class_code s.class
    → head.labels ≡ label_count own → head.original_ttl ≡ original_ttl own → head_with s.owner head ≡ signed_head s fields
head_is s fields own head same code class labels ttl = rw (code, class, labels, ttl, same) refl
