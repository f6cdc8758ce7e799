-- Records in canonical order of their owners are found by them.
use borrow.Author.Count.{below_more}
use Rattle.std.proofs.Common.{◌≡◌, ℕ, zero, suc, ◌+◌, ◌-◌, ◌<◌, ◌≤◌, ◌==◌, ◌||◌, Bool, true, false, true≢false, List, [], ◌∷◌, length, get_or, take, drop, refl, sym, ap, ◌∙◌, subst, inl, inr, arith}
use Rattle.std.proofs.lemmas.Bool.{cases_lt}
use Rattle.std.proofs.lemmas.List.{get_or-drop, get_or-take, get_or_default, length-drop, length-take}
use Rattle.std.proofs.lemmas.List.Folds.{list_any_at}
use Rattle.std.proofs.lemmas.List.MinMax.{ranks_by}
use Rattle.std.proofs.lemmas.List.Sorted.{sorted_far}
use Rattle.std.specs.List.{AllByRecursion, filter, list_any}
use Rattle.std.specs.Ordering.{is_eq, is_lt, ordering_reverse}
use Rattle.std.specs.declared.cmp.Ordering.{Ordering}
use Rattle.std.specs.declared.cmp.Ordering.TheVariants.{Less, Equal, Greater}
use Rattle.dns_names_wire.specs.Words.{KeysCompare, OwnersAreInOrder, RecordValue, ZonesBegin, is_in, is_same, labels_cmp, type_code}
use Rattle.ans_store.specs.Zones.{IsFirstFrom, name_exists, have_type, owned_by}
use Rattle.ans_store.proofs.Names.{in_between, in_if_same, labels_total, names_rank, not_before_zone}

so_true : (b : Bool) → (b ≡ false → ⊥) → b ≡ true
so_true false none = absurd (none refl)
so_true true none = refl

or_true : (a b : Bool) → b ≡ true → (a || b) ≡ true
or_true true b h = refl
or_true false b h = h

so_false : (b : Bool) → (b ≡ true → ⊥) → b ≡ false
so_false false none = refl
so_false true none = absurd (none refl)

-- ---- the order of owners

far : (zs : List RecordValue) → OwnersAreInOrder zs → (i j : ℕ) (d : RecordValue) → i ≤ j → j < length zs
    → is_lt (labels_cmp (get_or zs j d).owner (get_or zs i d).owner) ≡ false
unfolding OwnersAreInOrder
far zs up i j d a b = sorted_far (λ r s. is_lt (labels_cmp r.owner s.owner)) (ranks_by labels_total (λ r. r.owner)) zs up i j d a b

-- the element, whatever the default is
same_item : (zs : List RecordValue) (i : ℕ) (r d : RecordValue) → i < length zs → r ≡ get_or zs i r → get_or zs i d ≡ r
same_item zs i r d h is = get_or_default zs i d r h ∙ sym is

pub before_middle : (zs : List RecordValue) (name : List (List ℕ)) (m : ℕ) (r : RecordValue) → OwnersAreInOrder zs → m < length zs → r ≡ get_or zs m r
    → is_lt (labels_cmp r.owner name) ≡ true → (k : ℕ) (d : RecordValue) → k < m + 1 → is_lt (labels_cmp (get_or zs k d).owner name) ≡ true
before_middle zs name m r up h is lt k d below =
    so_true _ (λ none. true≢false (sym lt ∙ names_rank.chain r.owner (get_or zs k d).owner name
    (subst (λ (x : RecordValue). is_lt (labels_cmp x.owner (get_or zs k d).owner) ≡ false) (same_item zs m r d h is) (far zs up k m d (omega arith) h)) none))

pub from_middle : (zs : List RecordValue) (name : List (List ℕ)) (m : ℕ) (r : RecordValue) → OwnersAreInOrder zs → m < length zs → r ≡ get_or zs m r
    → is_lt (labels_cmp r.owner name) ≡ false → (k : ℕ) (d : RecordValue) → m ≤ k → k < length zs → is_lt (labels_cmp (get_or zs k d).owner name) ≡ false
from_middle zs name m r up h is not k d above within =
    names_rank.chain (get_or zs k d).owner r.owner name
    (subst (λ (x : RecordValue). is_lt (labels_cmp (get_or zs k d).owner x.owner) ≡ false) (same_item zs m r d h is) (far zs up m k d above within)) not

-- ---- the records of a name are next to one another

less : (o : Ordering) → is_lt o ≡ true → is_eq o ≡ false
less Less h = refl
less Equal h = absurd (true≢false (sym h))
less Greater h = refl

not_same_if_less : (x y : List (List ℕ)) → is_lt (labels_cmp x y) ≡ true → is_same x y ≡ false
unfolding is_same
not_same_if_less x y h = less (labels_cmp x y) h

filter_none : (p : RecordValue → Bool) (zs : List RecordValue) → ((k : ℕ) (d : RecordValue) → k < length zs → p (get_or zs k d) ≡ false) → filter p zs ≡ []
filter_none p [] none = refl
filter_none p (z ∷ zs) none = rw (none 0 z (omega arith)) (filter_none p zs (λ k d h. none (suc k) d (omega arith)))

filter_front : (p : RecordValue → Bool) (zs : List RecordValue) (n : ℕ)
    → ((k : ℕ) (d : RecordValue) → k < n → k < length zs → p (get_or zs k d) ≡ true)
    → ((k : ℕ) (d : RecordValue) → n ≤ k → k < length zs → p (get_or zs k d) ≡ false) → filter p zs ≡ take n zs
filter_front p [] zero all none = refl
filter_front p [] (suc n) all none = refl
filter_front p (z ∷ zs) zero all none = filter_none p (z ∷ zs) (λ k d h. none k d (omega arith) h)
filter_front p (z ∷ zs) (suc n) all none =
    rw (all 0 z (omega arith) (omega arith))
    (ap (λ (rest : List RecordValue). z ∷ rest) (filter_front p zs n (λ k d a b. all (suc k) d (omega arith) (omega arith)) (λ k d a b. none (suc k) d (omega arith) (omega arith))))

filter_part : (p : RecordValue → Bool) (zs : List RecordValue) (s n : ℕ)
    → ((k : ℕ) (d : RecordValue) → k < s → k < length zs → p (get_or zs k d) ≡ false)
    → ((k : ℕ) (d : RecordValue) → s ≤ k → k < s + n → k < length zs → p (get_or zs k d) ≡ true)
    → ((k : ℕ) (d : RecordValue) → s + n ≤ k → k < length zs → p (get_or zs k d) ≡ false) → filter p zs ≡ take n (drop s zs)
filter_part p zs zero n before all after = filter_front p zs n (λ k d a b. all k d (omega arith) (omega arith) b) (λ k d a b. after k d (omega arith) b)
filter_part p [] (suc s) zero before all after = refl
filter_part p [] (suc s) (suc n) before all after = refl
filter_part p (z ∷ zs) (suc s) n before all after =
    rw (before 0 z (omega arith) (omega arith))
    (filter_part p zs s n (λ k d a b. before (suc k) d (omega arith) (omega arith)) (λ k d a b c. all (suc k) d (omega arith) (omega arith) (omega arith))
    (λ k d a b. after (suc k) d (omega arith) (omega arith)))

-- The records of a name are those from the first one on that have it, up to one that has not.
pub record AreSameUpTo (zs : List RecordValue) (name : List (List ℕ)) (start end : ℕ) : Type 0 where
  pub ordered : start ≤ end
  pub within : end ≤ length zs
  pub same : (k : ℕ) (d : RecordValue) → start ≤ k → k < end → is_same (get_or zs k d).owner name ≡ true

owned_up_to : (zs : List RecordValue) (name : List (List ℕ)) (start end : ℕ) → IsFirstFrom zs name start → AreSameUpTo zs name start end
    → ((k : ℕ) (d : RecordValue) → end ≤ k → k < length zs → is_same (get_or zs k d).owner name ≡ false)
    → owned_by name zs ≡ take (end - start) (drop start zs)
unfolding owned_by
owned_up_to zs name start end first some none =
    let ordered = some.ordered in
    filter_part (λ r. is_same r.owner name) zs start (end - start)
    (λ k d a b. not_same_if_less (get_or zs k d).owner name (first.before k d a))
    (λ k d a b c. some.same k d a (omega arith)) (λ k d a b. none k d (omega arith) b)

equal : (o : Ordering) → is_eq o ≡ true → o ≡ Equal
equal Less h = absurd (true≢false (sym h))
equal Equal h = refl
equal Greater h = absurd (true≢false (sym h))

greater : (o : Ordering) → is_lt o ≡ false → is_eq o ≡ false → o ≡ Greater
greater Less h g = absurd (true≢false h)
greater Equal h g = absurd (true≢false g)
greater Greater h g = refl

-- From a record after the name on, none has it.
not_same_after : (zs : List RecordValue) (name : List (List ℕ)) (i : ℕ) (r : RecordValue) → OwnersAreInOrder zs → i < length zs → r ≡ get_or zs i r
    → is_lt (labels_cmp r.owner name) ≡ false → is_same r.owner name ≡ false → (k : ℕ) (d : RecordValue) → i ≤ k → k < length zs
    → is_same (get_or zs k d).owner name ≡ false
unfolding is_same
not_same_after zs name i r up h is not_less not_same k d above within =
    let other = (get_or zs k d).owner in
    let after : is_lt (labels_cmp other r.owner) ≡ false =
    subst (λ (x : RecordValue). is_lt (labels_cmp other x.owner) ≡ false) (same_item zs i r d h is) (far zs up i k d above within) in
    let before : labels_cmp name r.owner ≡ Less = labels_total.antisymm name r.owner ∙ ap ordering_reverse (greater (labels_cmp r.owner name) not_less not_same) in
    so_false _ (λ same. true≢false (sym (ap is_lt (labels_total.congr other name r.owner (equal (labels_cmp other name) same) ∙ before)) ∙ after))

pub owned_before : (zs : List RecordValue) (name : List (List ℕ)) (start end : ℕ) (r : RecordValue) → OwnersAreInOrder zs → IsFirstFrom zs name start
    → AreSameUpTo zs name start end → end < length zs → r ≡ get_or zs end r → is_same r.owner name ≡ false
    → take (end - start) (drop start zs) ≡ owned_by name zs
owned_before zs name start end r up first some below is other =
    let not_less : is_lt (labels_cmp r.owner name) ≡ false =
    subst (λ (x : RecordValue). is_lt (labels_cmp x.owner name) ≡ false) (sym is) (first.others end r some.ordered below) in
    sym (owned_up_to zs name start end first some (not_same_after zs name end r up below is not_less other))

pub owned_to_end : (zs : List RecordValue) (name : List (List ℕ)) (start end : ℕ) → IsFirstFrom zs name start → AreSameUpTo zs name start end
    → length zs ≤ end → take (end - start) (drop start zs) ≡ owned_by name zs
owned_to_end zs name start end first some all = sym (owned_up_to zs name start end first some (λ k d a b. absurd (omega arith)))

pub same_more : (zs : List RecordValue) (name : List (List ℕ)) (start end : ℕ) (r : RecordValue) → AreSameUpTo zs name start end → end < length zs
    → r ≡ get_or zs end r → is_same r.owner name ≡ true → AreSameUpTo zs name start (end + 1)
same_more zs name start end r some below is same =
    let ordered = some.ordered in
    record {
      ordered = omega arith;
      within = omega arith;
      same = λ k d a b. elim (cases_lt k end) [
        | inl former ↦ some.same k d a former
        | inr last ↦
            let at : end ≡ k = omega arith in
            subst (λ n. is_same (get_or zs n d).owner name ≡ true) at (subst (λ (x : RecordValue). is_same x.owner name ≡ true) (sym (same_item zs end r d below is)) same)
      ];
    }

-- ---- names that exist

place_on : (p : RecordValue → Bool) (z : RecordValue) (zs : List RecordValue) (b : Bool) → b ≡ p z → list_any p (z ∷ zs) ≡ true
    → (list_any p zs ≡ true → RecordValue × (k : ℕ) × (k < length zs) × ((d : RecordValue) → p (get_or zs k d) ≡ true))
    → RecordValue × (k : ℕ) × (k < length (z ∷ zs)) × ((d : RecordValue) → p (get_or (z ∷ zs) k d) ≡ true)
place_on p z zs true is h on = (z, 0, omega arith, λ d. sym is)
place_on p z zs false is h on = let (r, k, below, passes) = on (rw (sym is) at h) in (r, suc k, omega arith, passes)

any_place : (p : RecordValue → Bool) (zs : List RecordValue) → list_any p zs ≡ true
    → RecordValue × (k : ℕ) × (k < length zs) × ((d : RecordValue) → p (get_or zs k d) ≡ true)
any_place p [] h = absurd (true≢false (sym h))
any_place p (z ∷ zs) h = place_on p z zs (p z) refl h (any_place p zs)

module _ (compare : KeysCompare) (begin : ZonesBegin) where
  -- If a name exists, the first record from it on is in it.
  first_in : (zs : List RecordValue) (name : List (List ℕ)) (start : ℕ) → OwnersAreInOrder zs → IsFirstFrom zs name start → name_exists name zs ≡ true
      → (start < length zs) × ((d : RecordValue) → is_in name (get_or zs start d).owner ≡ true)
  unfolding name_exists
  first_in zs name start up first h =
      let (r, k, below, passes) = any_place (λ r. is_in name r.owner) zs h in
      elim (cases_lt k start) [
        | inl earlier ↦ absurd (true≢false (sym (first.before k r earlier) ∙ not_before_zone compare begin name (get_or zs k r).owner (passes r)))
        | inr more ↦ let within : start < length zs = omega arith in (
          within,
          λ d. in_between compare begin name (get_or zs k d).owner (get_or zs start d).owner (passes d) (first.others start d (omega arith) within)
              (far zs up start k d more below),
        )
      ]

  pub exists_not : (zs : List RecordValue) (name : List (List ℕ)) (start : ℕ) → OwnersAreInOrder zs → IsFirstFrom zs name start → length zs ≤ start
      → name_exists name zs ≡ false
  exists_not zs name start up first past = so_false _ (λ h. absurd (omega (arith, (first_in zs name start up first h).0)))

  pub exists_by_first : (zs : List RecordValue) (name : List (List ℕ)) (start : ℕ) (r : RecordValue) (b : Bool) → OwnersAreInOrder zs → IsFirstFrom zs name start
      → start < length zs → r ≡ get_or zs start r → b ≡ is_in name r.owner → b ≡ name_exists name zs
  unfolding name_exists
  exists_by_first zs name start r b up first within is same = by (is_in name r.owner) refl
    where
      by : (c : Bool) → c ≡ is_in name r.owner → b ≡ list_any (λ z. is_in name z.owner) zs
      by true passes =
          same ∙ (sym passes ∙ sym (list_any_at (λ z. is_in name z.owner) zs start r within (subst (λ (x : RecordValue). is_in name x.owner ≡ true) is (sym passes))))
      by false fails =
          same ∙ (sym fails ∙ sym (so_false _ (λ h. true≢false (sym ((first_in zs name start up first h).1 r)
          ∙ subst (λ (x : RecordValue). is_in name x.owner ≡ false) is (sym fails)))))

-- ---- a part of the records

part_at : (zs : List RecordValue) (s e j : ℕ) (d : RecordValue) → j < e - s → get_or (take (e - s) (drop s zs)) j d ≡ get_or zs (s + j) d
part_at zs s e j d h = get_or-take (e - s) (drop s zs) j d h ∙ get_or-drop s zs j d

module _ (p : RecordValue → Bool) (zs : List RecordValue) (s e : ℕ) (within : e ≤ length zs) where
  pub any_found : (k : ℕ) (r : RecordValue) → s ≤ k → k < e → r ≡ get_or zs k r → p r ≡ true → list_any p (take (e - s) (drop s zs)) ≡ true
  any_found k r a b is passes =
      let j : k - s < e - s = omega arith in
      let back : s + (k - s) ≡ k = omega arith in
      let long : k - s < length (take (e - s) (drop s zs)) = simp (length-take, length-drop) (omega arith) in
      list_any_at p (take (e - s) (drop s zs)) (k - s) r long
      (ap p (part_at zs s e (k - s) r j ∙ (ap (λ n. get_or zs n r) back ∙ sym is)) ∙ passes)

  pub any_none : ((k : ℕ) (d : RecordValue) → s ≤ k → k < e → p (get_or zs k d) ≡ false) → list_any p (take (e - s) (drop s zs)) ≡ false
  any_none none =
      so_false _ (λ h. let (r, j, below, passes) = any_place p (take (e - s) (drop s zs)) h in
      let long : length (take (e - s) (drop s zs)) ≤ e - s = simp (length-take, length-drop) (omega arith) in
      true≢false (sym (passes r) ∙ (ap p (part_at zs s e j r (omega arith)) ∙ none (s + j) r (omega arith) (omega arith))))

pub none_more : (p : RecordValue → Bool) (zs : List RecordValue) (s i : ℕ) (r : RecordValue) → i < length zs → r ≡ get_or zs i r → p r ≡ false
    → ((k : ℕ) (d : RecordValue) → s ≤ k → k < i → p (get_or zs k d) ≡ false) → (k : ℕ) (d : RecordValue) → s ≤ k → k < i + 1 → p (get_or zs k d) ≡ false
none_more p zs s i r h is fails none k d a b = elim (cases_lt k i) [
  | inl former ↦ none k d a former
  | inr last ↦
      let at : i ≡ k = omega arith in
      subst (λ n. p (get_or zs n d) ≡ false) at (ap p (same_item zs i r d h is) ∙ fails)
]

-- ---- all records

pub all_by_index : (P : RecordValue → Type 0) (zs : List RecordValue) → ((k : ℕ) (d : RecordValue) → k < length zs → P (get_or zs k d)) → AllByRecursion P zs
all_by_index P [] all = tt
all_by_index P (z ∷ zs) all = (all 0 z (omega arith), all_by_index P zs (λ k d h. all (suc k) d (omega arith)))

pub passing_more : (p : RecordValue → Bool) (zs : List RecordValue) (i : ℕ) (r : RecordValue) → i < length zs → r ≡ get_or zs i r → p r ≡ true
    → ((k : ℕ) (d : RecordValue) → k < i → p (get_or zs k d) ≡ true) → (k : ℕ) (d : RecordValue) → k < i + 1 → p (get_or zs k d) ≡ true
passing_more p zs i r h is passes all k d below =
    below_more (λ k. p (get_or zs k d) ≡ true) i (λ k below. all k d below) (ap p (same_item zs i r d h is) ∙ passes) k below

-- ---- the apex exists

any_of_filter : (p q t : RecordValue → Bool) (zs : List RecordValue) → ((z : RecordValue) → q z ≡ true → t z ≡ true) → list_any p (filter q zs) ≡ true
    → list_any t zs ≡ true
any_of_filter p q t [] all h = absurd (true≢false (sym h))
any_of_filter p q t (z ∷ zs) all h = by (q z) refl (any_of_filter p q t zs all)
  where
    by : (b : Bool) → b ≡ q z → (list_any p (filter q zs) ≡ true → list_any t zs ≡ true) → list_any t (z ∷ zs) ≡ true
    by true is on = rw (all z (sym is)) refl
    by false is on = or_true (t z) (list_any t zs) (on (rw (sym is) at h))

pub owner_exists : (name : List (List ℕ)) (code : ℕ) (zs : List RecordValue) → have_type code (owned_by name zs) ≡ true → name_exists name zs ≡ true
unfolding name_exists owned_by
owner_exists name code zs h =
    any_of_filter (λ r. type_code r.record_type == code) (λ r. is_same r.owner name) (λ r. is_in name r.owner) zs (λ z same. in_if_same name z.owner same) h
