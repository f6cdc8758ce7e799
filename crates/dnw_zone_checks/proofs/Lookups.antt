-- Records of a zone are found by their owners.
use Rattle.std.proofs.Common.{◌≡◌, inl, inr, ℕ, zero, suc, ◌+◌, ◌<◌, ◌≤◌, ◌&&◌, if◌then◌else◌, cond, nat_lt, not, Bool, true, false, true≢false, List, [], ◌∷◌, length, get_or, Some, None, refl, sym, ap, ◌∙◌, subst, arith}
use Rattle.std.proofs.lemmas.Bool.{and_from, and_parts, and_right, cases_lt, lt-ltb, not-true, true_from_ne_false}
use Rattle.std.proofs.lemmas.Iterator.Adapters.{position_from-zero}
use Rattle.std.proofs.lemmas.List.Quantifiers.{position-Some}
use Rattle.std.proofs.lemmas.List.Sums.{fails_before_first}
use Rattle.std.proofs.lemmas.Cmp.{lists_total, nat_list_cmp_total, on_total}
use Rattle.std.proofs.lemmas.List.{get_or_default}
use Rattle.std.proofs.lemmas.Option.{slice_get-get_or, slice_get_past}
use Rattle.std.proofs.lemmas.List.MinMax.{ranks_by}
use Rattle.std.proofs.lemmas.List.Sorted.{sorted_far}
use Rattle.std.specs.Cmp.{IsStrictWeakOrder, IsTotalOrder}
use Rattle.std.specs.List.{position, position_from, position_or_len, slice_get}
use Rattle.std.specs.Ordering.{is_eq, is_gt, is_lt, ordering_reverse}
use Rattle.std.specs.declared.cmp.Ordering.{Ordering}
use Rattle.std.specs.declared.cmp.Ordering.TheVariants.{Less, Equal, Greater}
use Rattle.dnw_base.specs.RecordTypes.{type_code}
use Rattle.dnw_name_order.specs.Order.{canonical, labels_cmp}
use Rattle.dnw_record.specs.Records.{RecordValue}
use Rattle.dnw_zone_checks.specs.Checks.{OwnersAreInOrder, first_at, is_same}
use Rattle.dnw_zone_checks.specs.Inside.Seeking.{is_from, numbers_from}

-- ---- the order of names

pub labels_total : IsTotalOrder labels_cmp
labels_total = on_total canonical (lists_total nat_list_cmp_total)

pub names_rank : IsStrictWeakOrder (λ x y. is_lt (labels_cmp x y))
names_rank = ranks_by labels_total (λ x. x)

greater : (o : Ordering) → is_gt o ≡ true → o ≡ Greater
greater Less h = absurd (true≢false (sym h))
greater Equal h = absurd (true≢false (sym h))
greater Greater h = refl

less : (o : Ordering) → is_lt o ≡ true → o ≡ Less
less Less h = refl
less Equal h = absurd (true≢false (sym h))
less Greater h = absurd (true≢false (sym h))

so_greater : (o : Ordering) → is_lt o ≡ false → is_eq o ≡ false → is_gt o ≡ true
so_greater Less h g = absurd (true≢false h)
so_greater Equal h g = absurd (true≢false g)
so_greater Greater h g = refl

first_false : (a b : Bool) → b ≡ true → (a && b) ≡ false → a ≡ false
first_false true b h g = sym h ∙ g
first_false false b h g = refl

some_is_none : (n : ℕ) → Some n ≡ None → ⊥
some_is_none n h = cc

pub not_same_if_less : (x y : List (List ℕ)) → is_lt (labels_cmp x y) ≡ true → is_same x y ≡ false
unfolding is_same
not_same_if_less x y h = ap is_eq (less (labels_cmp x y) h)

-- a name that is greater comes after the other
after_greater : (x y : List (List ℕ)) → is_gt (labels_cmp x y) ≡ true → is_lt (labels_cmp y x) ≡ true
after_greater x y h = ap is_lt (labels_total.antisymm y x ∙ ap ordering_reverse (greater (labels_cmp x y) h))

not_same_if_after : (x y : List (List ℕ)) → is_lt (labels_cmp y x) ≡ true → is_same x y ≡ false
unfolding is_same
not_same_if_after x y h = ap is_eq (labels_total.antisymm x y ∙ ap ordering_reverse (less (labels_cmp y x) h))

-- ---- records in order

pub far : (zs : List RecordValue) → OwnersAreInOrder zs → (i j : ℕ) (d : RecordValue) → i ≤ j → j < length zs
    → is_lt (labels_cmp (get_or zs j d).owner (get_or zs i d).owner) ≡ false
unfolding OwnersAreInOrder
far zs up i j d a b = sorted_far (λ r s. is_lt (labels_cmp r.owner s.owner)) (ranks_by labels_total (λ r. r.owner)) zs up i j d a b

-- the element, whatever the default is
pub same_item : (zs : List RecordValue) (i : ℕ) (r d : RecordValue) → i < length zs → r ≡ get_or zs i r → get_or zs i d ≡ r
same_item zs i r d h is = get_or_default zs i d r h ∙ sym is

-- ---- numbers of records

abbrev owner_at : List RecordValue → List ℕ → ℕ → RecordValue → List (List ℕ)
owner_at zs ns k d = (get_or zs (get_or ns k 0) d).owner

least_next : (b : Bool) (i : ℕ) (ns : List ℕ) → ((k : ℕ) → k < length ns → i + 1 ≤ get_or ns k 0)
    → (k : ℕ) → k < length (if b then i ∷ ns else ns) → i ≤ get_or (if b then i ∷ ns else ns) k 0
least_next false i ns least k h = omega (arith, least k h)
least_next true i ns least zero h = omega arith
least_next true i ns least (suc k) h = omega (arith, least k (omega arith))

numbers_least : (p : ℕ → Bool) (i : ℕ) (zs : List RecordValue) (k : ℕ) → k < length (numbers_from p i zs) → i ≤ get_or (numbers_from p i zs) k 0
numbers_least p i [] k h = absurd (omega arith)
numbers_least p i (r ∷ zs) k h = least_next (p (type_code r.record_type)) i (numbers_from p (i + 1) zs) (numbers_least p (i + 1) zs) k h

below_next : (b : Bool) (i n : ℕ) (ns : List ℕ) → ((k : ℕ) → k < length ns → get_or ns k 0 < (i + 1) + n)
    → (k : ℕ) → k < length (if b then i ∷ ns else ns) → get_or (if b then i ∷ ns else ns) k 0 < i + suc n
below_next false i n ns below k h = omega (arith, below k h)
below_next true i n ns below zero h = omega arith
below_next true i n ns below (suc k) h = omega (arith, below k (omega arith))

numbers_below : (p : ℕ → Bool) (i : ℕ) (zs : List RecordValue) (k : ℕ) → k < length (numbers_from p i zs) → get_or (numbers_from p i zs) k 0 < i + length zs
numbers_below p i [] k h = absurd (omega arith)
numbers_below p i (r ∷ zs) k h = below_next (p (type_code r.record_type)) i (length zs) (numbers_from p (i + 1) zs) (numbers_below p (i + 1) zs) k h

ascend_next : (b : Bool) (i : ℕ) (ns : List ℕ) → ((k : ℕ) → k < length ns → i + 1 ≤ get_or ns k 0)
    → ((k m : ℕ) → k ≤ m → m < length ns → get_or ns k 0 ≤ get_or ns m 0)
    → (k m : ℕ) → k ≤ m → m < length (if b then i ∷ ns else ns) → get_or (if b then i ∷ ns else ns) k 0 ≤ get_or (if b then i ∷ ns else ns) m 0
ascend_next false i ns least up k m h below = up k m h below
ascend_next true i ns least up zero zero h below = omega arith
ascend_next true i ns least up zero (suc m) h below = omega (arith, least m (omega arith))
ascend_next true i ns least up (suc k) zero h below = absurd (omega arith)
ascend_next true i ns least up (suc k) (suc m) h below = up k m (omega arith) (omega arith)

numbers_ascend : (p : ℕ → Bool) (i : ℕ) (zs : List RecordValue) (k m : ℕ) → k ≤ m → m < length (numbers_from p i zs)
    → get_or (numbers_from p i zs) k 0 ≤ get_or (numbers_from p i zs) m 0
numbers_ascend p i [] k m h below = absurd (omega arith)
numbers_ascend p i (r ∷ zs) k m h below =
    ascend_next (p (type_code r.record_type)) i (numbers_from p (i + 1) zs) (numbers_least p (i + 1) zs) (numbers_ascend p (i + 1) zs) k m h below

-- a number of the list is that of a record
pub number_within : (p : ℕ → Bool) (zs : List RecordValue) (ns : List ℕ) (k : ℕ) → ns ≡ numbers_from p 0 zs → k < length ns → get_or ns k 0 < length zs
number_within p zs ns k is h =
    let e : 0 + length zs ≡ length zs = omega arith in
    subst (λ (n : ℕ). get_or ns k 0 < n) e
    (subst (λ (ls : List ℕ). get_or ls k 0 < 0 + length zs) (sym is) (numbers_below p 0 zs k (subst (λ (ls : List ℕ). k < length ls) is h)))

ascending : (p : ℕ → Bool) (zs : List RecordValue) (ns : List ℕ) (k m : ℕ) → ns ≡ numbers_from p 0 zs → k ≤ m → m < length ns → get_or ns k 0 ≤ get_or ns m 0
ascending p zs ns k m is h below =
    subst (λ (ls : List ℕ). get_or ls k 0 ≤ get_or ls m 0) (sym is) (numbers_ascend p 0 zs k m h (subst (λ (ls : List ℕ). m < length ls) is below))

-- the owner of an earlier number is not after that of a later one
in_turn : (p : ℕ → Bool) (zs : List RecordValue) (ns : List ℕ) → OwnersAreInOrder zs → ns ≡ numbers_from p 0 zs → (k m : ℕ) (d : RecordValue) → k ≤ m → m < length ns
    → is_lt (labels_cmp (owner_at zs ns m d) (owner_at zs ns k d)) ≡ false
in_turn p zs ns up is k m d h below = far zs up (get_or ns k 0) (get_or ns m 0) d (ascending p zs ns k m is h below) (number_within p zs ns m is below)

pub before_middle : (p : ℕ → Bool) (zs : List RecordValue) (ns : List ℕ) (name : List (List ℕ)) (m : ℕ) → OwnersAreInOrder zs → ns ≡ numbers_from p 0 zs → m < length ns
    → ((d : RecordValue) → is_lt (labels_cmp (owner_at zs ns m d) name) ≡ true) → (k : ℕ) (d : RecordValue) → k < m + 1 → is_lt (labels_cmp (owner_at zs ns k d) name) ≡ true
before_middle p zs ns name m up list h lt k d below =
    true_from_ne_false _ (λ none. true≢false (sym (lt d)
    ∙ names_rank.chain (owner_at zs ns m d) (owner_at zs ns k d) name (in_turn p zs ns up list k m d (omega arith) h) none))

pub from_middle : (p : ℕ → Bool) (zs : List RecordValue) (ns : List ℕ) (name : List (List ℕ)) (m : ℕ) → OwnersAreInOrder zs → ns ≡ numbers_from p 0 zs → m < length ns
    → ((d : RecordValue) → is_lt (labels_cmp (owner_at zs ns m d) name) ≡ false)
    → (k : ℕ) (d : RecordValue) → m ≤ k → k < length ns → is_lt (labels_cmp (owner_at zs ns k d) name) ≡ false
from_middle p zs ns name m up list h not k d above within =
    names_rank.chain (owner_at zs ns k d) (owner_at zs ns m d) name (in_turn p zs ns up list m k d above within) (not d)

-- ---- the first number of a list whose owner is not before a name

-- what a search knows of the numbers before this one, and of this one
abbrev pub AreBefore : (ℕ → Bool) → List (List ℕ) → ℕ → List RecordValue → ℕ → Type 0
AreBefore p name i zs low =
    (k j : ℕ) (d : RecordValue) → k < low → get_or (numbers_from p i zs) k 0 ≡ i + j → is_lt (labels_cmp (get_or zs j d).owner name) ≡ true

abbrev pub IsNotBefore : (ℕ → Bool) → List (List ℕ) → ℕ → List RecordValue → ℕ → Type 0
IsNotBefore p name i zs low =
    (j : ℕ) (d : RecordValue) → low < length (numbers_from p i zs) → get_or (numbers_from p i zs) low 0 ≡ i + j → is_lt (labels_cmp (get_or zs j d).owner name) ≡ false

later : (i j n : ℕ) → n ≡ (i + 1) + j → n ≡ i + suc j
later i j n e = omega arith

first_next : (p : ℕ → Bool) (name : List (List ℕ)) (r : RecordValue) (zs : List RecordValue) (i low : ℕ) (b : Bool) → p (type_code r.record_type) ≡ b
    → ((l : ℕ) → l ≤ length (numbers_from p (i + 1) zs) → AreBefore p name (i + 1) zs l → IsNotBefore p name (i + 1) zs l
    → position_from (is_from name p) (i + 1) zs ≡ slice_get (numbers_from p (i + 1) zs) l)
    → low ≤ length (numbers_from p i (r ∷ zs)) → AreBefore p name i (r ∷ zs) low → IsNotBefore p name i (r ∷ zs) low
    → position_from (is_from name p) i (r ∷ zs) ≡ slice_get (numbers_from p i (r ∷ zs)) low
first_next p name r zs i low false e on h before at =
    let h' = rw e at h in
    let before' = rw e at before in
    let at' = rw e at at in
    rw e (on low h' (λ k j d below is. before' k (suc j) d below (later i j _ is)) (λ j d below is. at' (suc j) d below (later i j _ is)))
first_next p name r zs i zero true e on h before at =
    let at' = rw e at at in
    let not : is_lt (labels_cmp r.owner name) ≡ false = at' 0 r (omega arith) (omega arith) in
    rw (e, not) refl
first_next p name r zs i (suc l) true e on h before at =
    let h' = rw e at h in
    let before' = rw e at before in
    let at' = rw e at at in
    let lt : is_lt (labels_cmp r.owner name) ≡ true = before' 0 0 r (omega arith) (omega arith) in
    rw (e, lt) (on l (omega arith) (λ k j d below is. before' (suc k) (suc j) d (omega arith) (later i j _ is)) (λ j d below is. at' (suc j) d (omega arith) (later i j _ is)))

first_number : (p : ℕ → Bool) (name : List (List ℕ)) (zs : List RecordValue) (i low : ℕ) → low ≤ length (numbers_from p i zs)
    → AreBefore p name i zs low → IsNotBefore p name i zs low → position_from (is_from name p) i zs ≡ slice_get (numbers_from p i zs) low
first_number p name [] i low h before at = refl
first_number p name (r ∷ zs) i low h before at =
    first_next p name r zs i low (p (type_code r.record_type)) refl (first_number p name zs (i + 1)) h before at

first_is_number : (p : ℕ → Bool) (name : List (List ℕ)) (zs : List RecordValue) (ns : List ℕ) (low : ℕ) → ns ≡ numbers_from p 0 zs → low ≤ length ns
    → ((k : ℕ) (d : RecordValue) → k < low → is_lt (labels_cmp (get_or zs (get_or ns k 0) d).owner name) ≡ true)
    → ((k : ℕ) (d : RecordValue) → low ≤ k → k < length ns → is_lt (labels_cmp (get_or zs (get_or ns k 0) d).owner name) ≡ false)
    → slice_get ns low ≡ position_from (is_from name p) 0 zs
first_is_number p name zs ns low is h before at =
    let same : (j n : ℕ) → n ≡ 0 + j → n ≡ j = λ j n e. omega arith in
    let numbers = numbers_from p 0 zs in
    let before' = subst (λ (ls : List ℕ). (k : ℕ) (d : RecordValue) → k < low → is_lt (labels_cmp (get_or zs (get_or ls k 0) d).owner name) ≡ true) is before in
    let at' = subst (λ (ls : List ℕ). (k : ℕ) (d : RecordValue) → low ≤ k → k < length ls → is_lt (labels_cmp (get_or zs (get_or ls k 0) d).owner name) ≡ false) is at in
    ap (λ (ls : List ℕ). slice_get ls low) is
    ∙ sym (first_number p name zs 0 low (subst (λ (ls : List ℕ). low ≤ length ls) is h)
    (λ k j d below e. subst (λ (n : ℕ). is_lt (labels_cmp (get_or zs n d).owner name) ≡ true) (same j _ e) (before' k d below))
    (λ j d below e. subst (λ (n : ℕ). is_lt (labels_cmp (get_or zs n d).owner name) ≡ false) (same j _ e) (at' low d (omega arith) below)))

pub first_some : (p : ℕ → Bool) (name : List (List ℕ)) (zs : List RecordValue) (ns : List ℕ) (low : ℕ) → ns ≡ numbers_from p 0 zs → low < length ns
    → ((k : ℕ) (d : RecordValue) → k < low → is_lt (labels_cmp (get_or zs (get_or ns k 0) d).owner name) ≡ true)
    → ((k : ℕ) (d : RecordValue) → low ≤ k → k < length ns → is_lt (labels_cmp (get_or zs (get_or ns k 0) d).owner name) ≡ false)
    → position_from (is_from name p) 0 zs ≡ Some (get_or ns low 0)
first_some p name zs ns low is h before at = sym (first_is_number p name zs ns low is (omega arith) before at) ∙ slice_get-get_or ns low 0 h

pub first_none : (p : ℕ → Bool) (name : List (List ℕ)) (zs : List RecordValue) (ns : List ℕ) (low : ℕ) → ns ≡ numbers_from p 0 zs → length ns ≤ low → low ≤ length ns
    → ((k : ℕ) (d : RecordValue) → k < low → is_lt (labels_cmp (get_or zs (get_or ns k 0) d).owner name) ≡ true) → position_from (is_from name p) 0 zs ≡ None
first_none p name zs ns low is h g before =
    sym (first_is_number p name zs ns low is g before (λ k d above below. absurd (omega arith))) ∙ slice_get_past ns low h

-- from a record after the name on, none has it
past : (zs : List RecordValue) (name : List (List ℕ)) (i : ℕ) (r : RecordValue) → OwnersAreInOrder zs → i < length zs → r ≡ get_or zs i r
    → is_gt (labels_cmp r.owner name) ≡ true → (j : ℕ) (d : RecordValue) → i ≤ j → j < length zs → is_same (get_or zs j d).owner name ≡ false
past zs name i r up h is gt j d above within =
    not_same_if_after (get_or zs j d).owner name (true_from_ne_false _ (λ none. true≢false (sym (after_greater r.owner name gt) ∙ names_rank.chain name (get_or zs j d).owner r.owner none
    (subst (λ (x : RecordValue). is_lt (labels_cmp (get_or zs j d).owner x.owner) ≡ false) (same_item zs i r d h is) (far zs up i j d above within)))))

-- ---- the first that passes

pub first_is : (t : RecordValue → Bool) (zs : List RecordValue) (i k : ℕ) (d : RecordValue) → k < length zs → t (get_or zs k d) ≡ true
    → ((j : ℕ) → j < k → t (get_or zs j d) ≡ false) → position_from t i zs ≡ Some (i + k)
first_is t [] i k d h passed none = absurd (omega arith)
first_is t (x ∷ zs) i zero d h passed none = let e : i ≡ i + zero = omega arith in rw passed (ap Some e)
first_is t (x ∷ zs) i (suc k) d h passed none =
    let e : (i + 1) + k ≡ i + suc k = omega arith in
    rw (none 0 (omega arith)) (first_is t zs (i + 1) k d (omega arith) passed (λ j below. none (suc j) (omega arith)) ∙ ap Some e)

none_is : (t : RecordValue → Bool) (zs : List RecordValue) (i : ℕ) (d : RecordValue) → ((j : ℕ) → j < length zs → t (get_or zs j d) ≡ false) → position_from t i zs ≡ None
none_is t [] i d none = refl
none_is t (x ∷ zs) i d none = rw (none 0 (omega arith)) (none_is t zs (i + 1) d (λ j below. none (suc j) (omega arith)))

pub either : (j i : ℕ) (P : Type 0) → (j < i → P) → (i ≤ j → P) → P
either j i P a b = elim (cases_lt j i) [ inl l ↦ a l | inr g ↦ b g ]

past_end : (n size k : ℕ) → cond (nat_lt n size) (Some n) None ≡ None → k < size → k < n
past_end n size k none h = either n size (k < n) (λ l. absurd (some_is_none n (sym (rw (lt-ltb n size l) refl) ∙ none))) (λ g. omega arith)

found_is : {X : Type 0} (t : X → Bool) (zs : List X) (k : ℕ) → position_from t 0 zs ≡ Some k → position t zs ≡ Some k
found_is t zs k is = position_from-zero t zs ∙ is

not_found : {X : Type 0} (t : X → Bool) (zs : List X) (d : X) → position_from t 0 zs ≡ None → (k : ℕ) → k < length zs → t (get_or zs k d) ≡ false
not_found t zs d none k h = fails_before_first t zs k d (past_end (position_or_len t zs) (length zs) k (position_from-zero t zs ∙ none) h)

-- A test that only such records pass as are found by another one, and of those after the first of these none if that one does not.
pub record IsNarrower (zs : List RecordValue) (t s : RecordValue → Bool) : Type 0 where
  pub only : (k : ℕ) (d : RecordValue) → t (get_or zs k d) ≡ false → s (get_or zs k d) ≡ false
  pub after : (n k : ℕ) (d : RecordValue) → n ≤ k → k < length zs → t (get_or zs n d) ≡ true → s (get_or zs n d) ≡ false → s (get_or zs k d) ≡ false

pub narrower_none : (zs : List RecordValue) (t s : RecordValue → Bool) → IsNarrower zs t s → position_from t 0 zs ≡ None → position_from s 0 zs ≡ None
narrower_none [] t s is none = refl
narrower_none (r ∷ zs) t s is none = none_is s (r ∷ zs) 0 r (λ k h. is.only k r (not_found t (r ∷ zs) r none k h))

pub narrower_first : (zs : List RecordValue) (t s : RecordValue → Bool) (n : ℕ) → IsNarrower zs t s → position_from t 0 zs ≡ Some n
    → ((d : RecordValue) → s (get_or zs n d) ≡ true) → position_from s 0 zs ≡ Some n
narrower_first [] t s n is found passed = absurd (some_is_none n (sym found))
narrower_first (r ∷ zs) t s n is found passed =
    let (within, holds, before) = position-Some t (r ∷ zs) n r (found_is t (r ∷ zs) n found) in
    let e : 0 + n ≡ n = omega arith in
    first_is s (r ∷ zs) 0 n r within (passed r) (λ k below. is.only k r (before k below)) ∙ ap Some e

pub narrower_past : (zs : List RecordValue) (t s : RecordValue → Bool) (n : ℕ) → IsNarrower zs t s → position_from t 0 zs ≡ Some n
    → ((d : RecordValue) → s (get_or zs n d) ≡ false) → position_from s 0 zs ≡ None
narrower_past [] t s n is found not = refl
narrower_past (r ∷ zs) t s n is found not =
    let (within, holds, before) = position-Some t (r ∷ zs) n r (found_is t (r ∷ zs) n found) in
    none_is s (r ∷ zs) 0 r (λ k below. either k n (s (get_or (r ∷ zs) k r) ≡ false) (λ l. is.only k r (before k l)) (λ g. is.after n k r g below holds (not r)))

-- of a name, and of types
abbrev pub is_at : List (List ℕ) → (ℕ → Bool) → RecordValue → Bool
is_at name p r = is_same r.owner name && p (type_code r.record_type)

not_greater : (x y : List (List ℕ)) → is_lt (labels_cmp x y) ≡ false → is_same x y ≡ false → is_gt (labels_cmp x y) ≡ true
unfolding is_same
not_greater x y h g = so_greater (labels_cmp x y) h g

at_after : (zs : List RecordValue) (name : List (List ℕ)) (p : ℕ → Bool) → OwnersAreInOrder zs → (n k : ℕ) (d : RecordValue) → n ≤ k → k < length zs
    → is_from name p (get_or zs n d) ≡ true → is_at name p (get_or zs n d) ≡ false → is_at name p (get_or zs k d) ≡ false
at_after zs name p up n k d h below holds not =
    let r = get_or zs n d in
    let (one, from) = and_parts (p (type_code r.record_type)) _ holds in
    let other : is_same r.owner name ≡ false = first_false (is_same r.owner name) (p (type_code r.record_type)) one not in
    let gt : is_gt (labels_cmp r.owner name) ≡ true = not_greater r.owner name (not-true _ from) other in
    ap (λ (b : Bool). b && p (type_code (get_or zs k d).record_type))
    (past zs name n r up (omega arith) (sym (get_or_default zs n r d (omega arith))) gt k d h below)

only_at : (name : List (List ℕ)) (p : ℕ → Bool) (r : RecordValue) (b c : Bool) → p (type_code r.record_type) ≡ b → is_lt (labels_cmp r.owner name) ≡ c → is_from name p r ≡ false
    → is_at name p r ≡ false
only_at name p r false c e f h = and_right (is_same r.owner name) _ e
only_at name p r true true e f h = ap (λ (b : Bool). b && p (type_code r.record_type)) (not_same_if_less r.owner name f)
only_at name p r true false e f h = absurd (true≢false (sym (rw (e, f) refl) ∙ h))

pub at_is_narrower : (zs : List RecordValue) (name : List (List ℕ)) (p : ℕ → Bool) → OwnersAreInOrder zs → IsNarrower zs (is_from name p) (is_at name p)
at_is_narrower zs name p up = record {
  only = λ k d h. only_at name p (get_or zs k d) _ _ refl refl h;
  after = λ n k d h below holds not. at_after zs name p up n k d h below holds not;
}

pub found_within : {X : Type 0} (t : X → Bool) (zs : List X) (k : ℕ) → position_from t 0 zs ≡ Some k → k < length zs
found_within t [] k is = absurd (some_is_none k (sym is))
found_within t (x ∷ zs) k is = (position-Some t (x ∷ zs) k x (found_is t (x ∷ zs) k is)).0

found_type : (zs : List RecordValue) (name : List (List ℕ)) (p : ℕ → Bool) (k : ℕ) (d : RecordValue) → position_from (is_from name p) 0 zs ≡ Some k
    → p (type_code (get_or zs k d).record_type) ≡ true
found_type zs name p k d is = (and_parts (p (type_code (get_or zs k d).record_type)) _ (position-Some (is_from name p) zs k d (found_is (is_from name p) zs k is)).1).0

-- ---- the first record of a name

pub none_at : (zs : List RecordValue) (name : List (List ℕ)) (p : ℕ → Bool) → OwnersAreInOrder zs → position_from (is_from name p) 0 zs ≡ None → first_at zs name p ≡ None
unfolding first_at
none_at zs name p up none = narrower_none zs (is_from name p) (is_at name p) (at_is_narrower zs name p up) none

pub first_here : (zs : List RecordValue) (name : List (List ℕ)) (p : ℕ → Bool) (k : ℕ) → OwnersAreInOrder zs → position_from (is_from name p) 0 zs ≡ Some k
    → ((d : RecordValue) → is_eq (labels_cmp (get_or zs k d).owner name) ≡ true) → first_at zs name p ≡ Some k
unfolding first_at is_same
first_here zs name p k up is same =
    narrower_first zs (is_from name p) (is_at name p) k (at_is_narrower zs name p up) is (λ d. and_from _ _ (same d) (found_type zs name p k d is))

pub first_past : (zs : List RecordValue) (name : List (List ℕ)) (p : ℕ → Bool) (k : ℕ) → OwnersAreInOrder zs → position_from (is_from name p) 0 zs ≡ Some k
    → ((d : RecordValue) → is_eq (labels_cmp (get_or zs k d).owner name) ≡ false) → first_at zs name p ≡ None
unfolding first_at is_same
first_past zs name p k up is other =
    narrower_past zs (is_from name p) (is_at name p) k (at_is_narrower zs name p up) is
    (λ d. ap (λ (b : Bool). b && p (type_code (get_or zs k d).record_type)) (other d))
