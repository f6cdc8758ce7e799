-- The records of a zone, one by one and in order.
use Rattle.std.proofs.Common.{◌≡◌, ◌≢◌, inl, inr, ℕ, ◌-◌, ◌<◌, List, [], ◌∷◌, ◌++◌, length, refl, sym, ap, ◌∙◌, subst, append_assoc, append-nil, arith}
use Rattle.std.proofs.lemmas.Cmp.{nat_cmp_total, nat_list_cmp_total, lists_total, on_total, then_total}
use Rattle.std.proofs.lemmas.List.{length-append}
use Rattle.std.specs.Cmp.{IsTotalOrder}
use Rattle.std.specs.Int.{w16, w32, to_be_bytes}
use Rattle.std.specs.List.{AllByRecursion}
use Rattle.std.specs.Prelude.{Some}
use Rattle.sha2.specs.Sha512.{sha384, sha512}
use Rattle.dnw_base.specs.Limits.{max_message}
use Rattle.dnw_base.specs.Names.{lower, wire}
use Rattle.dnw_name_order.specs.Order.{canonical}
use Rattle.dnw_record.specs.declared.record.Record.{Record}
use Rattle.dnw_signed.specs.Inside.Measuring.{AreDigestedBefore, AreMeasured}
use Rattle.dnw_signed.specs.ZoneDigests.{AreDigested, CanonicalRecord, FirstTooLong, HasShortData, IsCanonicalRecord, IsDigested, IsZoneHash, zone_cmp, zone_hash, zone_record}
use Rattle.dnw_signed.specs.ZoneDigests.{first_digested, first_left_out, no_records}

fit_push : (done : List Record) (item : Record) → AllByRecursion HasShortData done → HasShortData item → AllByRecursion HasShortData (done ++ item ∷ [])
fit_push [] item all one = (one, tt)
fit_push (r ∷ done) item (is, all) one = (is, fit_push done item all one)

pub measured_on : (item : Record) (records left others : List Record) → AreMeasured records left → left ≡ item ∷ others → HasShortData item
    → AreMeasured records others
measured_on item records left others c is one =
    record {
      done = c.done ++ item ∷ [];
      split = c.split ∙ ap (λ rs. c.done ++ rs) is ∙ sym (append_assoc c.done (item ∷ []) others);
      fit = fit_push c.done item c.fit one;
    }

pub all_measured : (records left : List Record) → AreMeasured records left → left ≡ [] → AllByRecursion HasShortData records
all_measured records left c none = subst (AllByRecursion HasShortData) (sym (c.split ∙ ap (λ rs. c.done ++ rs) none ∙ append-nil c.done)) c.fit

pub first_too_long : (item : Record) (records left others : List Record) (number : ℕ) → AreMeasured records left → left ≡ item ∷ others
    → number ≡ length records - length left → max_message < length item.data.octets → FirstTooLong records number
first_too_long item records left others number c is at long =
    record {
      before = c.done;
      r = item;
      after = others;
      split = c.split ∙ ap (λ rs. c.done ++ rs) is;
      count = omega (arith, at, ap length c.split, length-append c.done left);
      fit = c.fit;
      longer = long;
    }

-- ---- which of them are digested

pub none_before : (apex : List (List ℕ)) (records : List Record) → AreDigestedBefore apex records records []
none_before apex records = record { rest = λ more h. h }

pub one_digested : (apex : List (List ℕ)) (r : Record) (z : CanonicalRecord) (records left others : List Record) (zone : List CanonicalRecord)
    → AreDigestedBefore apex records left zone → left ≡ r ∷ others → IsDigested apex r → IsCanonicalRecord r z
    → AreDigestedBefore apex records others (zone ++ z ∷ [])
one_digested apex r z records left others zone c is digested canonical =
    record {
      rest = λ more h.
          subst (AreDigested apex records) (sym (append_assoc zone (z ∷ []) more))
          (c.rest (z ∷ more) (subst (λ rs. AreDigested apex rs (z ∷ more)) (sym is) (first_digested r z others more digested canonical h)));
    }

pub one_left_out : (apex : List (List ℕ)) (r : Record) (records left others : List Record) (zone : List CanonicalRecord)
    → AreDigestedBefore apex records left zone → left ≡ r ∷ others → (¬ (IsDigested apex r)) → AreDigestedBefore apex records others zone
one_left_out apex r records left others zone c is other =
    record { rest = λ more h. c.rest more (subst (λ rs. AreDigested apex rs more) (sym is) (first_left_out r others more other h)) }

pub all_digested : (apex : List (List ℕ)) (records left : List Record) (zone : List CanonicalRecord) → AreDigestedBefore apex records left zone
    → length left ≡ 0 → AreDigested apex records zone
all_digested apex records [] zone c none = subst (AreDigested apex records) (append-nil zone) (c.rest [] no_records)
all_digested apex records (r ∷ left) zone c none = absurd (omega (arith, none))

-- ---- their order

pub zone_total : IsTotalOrder zone_cmp
zone_total =
    then_total (then_total (on_total (λ z. z.owner) (on_total canonical (lists_total nat_list_cmp_total)))
    (then_total (on_total (λ z. z.record_type) nat_cmp_total) (on_total (λ z. z.octets) nat_list_cmp_total)))
    (on_total (λ z. z.ttl) nat_cmp_total)

-- ---- what is hashed

pub record_joined : (m a b c d e f : List ℕ) (z : CanonicalRecord) → a ≡ wire (lower z.owner) → b ≡ to_be_bytes w16 z.record_type
    → c ≡ to_be_bytes w16 z.class → d ≡ to_be_bytes w32 z.ttl → e ≡ to_be_bytes w16 (length z.octets) → f ≡ z.octets
    → ((((((m ++ a) ++ b) ++ c) ++ d) ++ e) ++ f) ≡ m ++ zone_record z
record_joined m a b c d e f z ia ib ic id ie io =
    let flat : ((((((m ++ a) ++ b) ++ c) ++ d) ++ e) ++ f) ≡ m ++ (a ++ (b ++ (c ++ (d ++ (e ++ f))))) = simp append_assoc refl in
    flat ∙ ap (λ xs. m ++ (xs ++ (b ++ (c ++ (d ++ (e ++ f)))))) ia
    ∙ ap (λ xs. m ++ (wire (lower z.owner) ++ (xs ++ (c ++ (d ++ (e ++ f)))))) ib
    ∙ ap (λ xs. m ++ (wire (lower z.owner) ++ (to_be_bytes w16 z.record_type ++ (xs ++ (d ++ (e ++ f)))))) ic
    ∙ ap (λ xs. m ++ (wire (lower z.owner) ++ (to_be_bytes w16 z.record_type ++ (to_be_bytes w16 z.class ++ (xs ++ (e ++ f)))))) id
    ∙ ap (λ xs. m ++ (wire (lower z.owner) ++ (to_be_bytes w16 z.record_type ++ (to_be_bytes w16 z.class ++ (to_be_bytes w32 z.ttl ++ (xs ++ f)))))) ie
    ∙ ap (λ xs. m ++ (wire (lower z.owner) ++ (to_be_bytes w16 z.record_type ++ (to_be_bytes w16 z.class ++ (to_be_bytes w32 z.ttl ++ (to_be_bytes w16 (length z.octets) ++ xs)))))) io

pub hashed_384 : (algorithm : ℕ) (octets digest : List ℕ) → algorithm ≡ 1 → digest ≡ sha384 octets → zone_hash algorithm octets ≡ Some digest
hashed_384 algorithm octets digest is e = rw (is, e) refl

pub hashed_512 : (algorithm : ℕ) (octets digest : List ℕ) → algorithm ≡ 2 → digest ≡ sha512 octets → zone_hash algorithm octets ≡ Some digest
hashed_512 algorithm octets digest is e = rw (is, e) refl

pub other_hash : (algorithm : ℕ) → IsZoneHash algorithm → algorithm ≢ 1 → algorithm ≡ 2
other_hash algorithm (inl one) not = absurd (not one)
other_hash algorithm (inr two) not = two
