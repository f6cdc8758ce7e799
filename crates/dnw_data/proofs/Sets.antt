-- Sets of types: their lists, and their bytes read back.
use Rattle.std.proofs.Common.{◌⊎◌, inl, inr, ◌↔◌, Contains, nat_lt, get_or, ◌≡◌, ℕ, ◌+◌, ◌<◌, ◌≤◌, ◌&&◌, ◌||◌, ◌==◌, Bool, true, false, nat_eq, List, [], ◌∷◌, ◌++◌, length, drop, map, cond, refl, sym, ap, ◌∙◌, subst, arith, Option, Some, Result, Ok, Err, IfErr, IsOkAnd}
use Rattle.std.specs.Iterator.{Yields}
use Rattle.std.specs.List.{flat_map, list_all, dedup, dedup_from, AllByRecursion}
use Rattle.std.specs.List.Retain.{IsFiltered, DiffersFromLast}
use Rattle.std.specs.List.Sorted.{IsBinarySearchResult, IsNonDecreasingBy, IsPartitionPoint, IsSearchInRange, IsStrictlySortedBy, IsSorted, IsPermutation}
use Rattle.std.specs.Result.{is_ok}
use Rattle.std.specs.Ordering.{eq_by_cmp, is_eq, ordering_index, nat_cmp, bool_cmp, ordering_then, MatchOrdering}
use Rattle.std.specs.declared.cmp.Ordering.{Ordering}
use Rattle.std.specs.declared.cmp.Ordering.TheVariants.{Less, Equal, Greater}
use Rattle.std.proofs.lemmas.Bool.{cases_lt, le-leb}
use Rattle.std.proofs.lemmas.Cmp.{ranked}
use Rattle.std.proofs.lemmas.List.{drop_all, append-nil, at_drop_more}
use Rattle.std.proofs.lemmas.List.Filters.{dedup_is}
use Rattle.std.proofs.lemmas.List.Kept.{Contains-dedup, Contains-from_dedup, IsStrictlySortedBy-dedup}
use Rattle.std.proofs.lemmas.Map.Keys.{Less-from_sorted}
use Rattle.std.proofs.lemmas.List.Sorted.{searchable_from_sorted, Contains-permutation, IsPermutation-sym}
use Rattle.dnw_base.specs.declared.record_type.RecordType.{RecordType}
use Rattle.dnw_base.specs.RecordTypes.{type_cmp, type_code, is_unknown}
use Rattle.dnw_base.specs.Inside.RecordTypeLaws.{types_tied, types_total, types_equal}
use Rattle.dnw_data.specs.TypeSets.{IsSetOf, YieldsSome, set_codes, Window, windows_of, windows_codes, window_bytes, in_bounds, ends_in_zeros, is_empty, IsWritten, bitmap_types}
use Rattle.dnw_data.specs.SetLaws.{SetsComeBack}
use Rattle.dnw_data.specs.Inside.Bitmaps.{Above}
use Rattle.dnw_data.proofs.Windows.{windows_before, windows_none}
use Rattle.std.proofs.lemmas.Bool.{lt-ltb, eqb-true, eqb-false}
use Rattle.dnw_base.specs.declared.error.DecodeError.{DecodeError}

-- ---- lists of types

-- sorted, and each once
pub settled : (xs ys zs : List RecordType) → IsPermutation xs ys → IsSorted type_cmp ys → IsFiltered (DiffersFromLast (eq_by_cmp type_cmp)) [] ys zs → IsSetOf xs zs
settled xs ys zs moved sorted once =
    let is = dedup_is (eq_by_cmp type_cmp) ys zs once in
    rw is (record {
      ascending = IsStrictlySortedBy-dedup types_total (λ x y. refl) ys sorted;
      all = λ kind h. Contains-dedup types_equal types_tied ys kind (Contains-permutation xs ys kind moved h);
      no_others = λ kind h. Contains-permutation ys xs kind (IsPermutation-sym xs ys moved) (Contains-from_dedup (eq_by_cmp type_cmp) ys kind h);
    })

pub empty_set : (bitmap : List ℕ) (types : List RecordType) → bitmap ≡ [] → types ≡ [] → IsSetOf (bitmap_types bitmap) types
unfolding windows_of IsStrictlySortedBy
empty_set bitmap types none empty = rw (none, empty) (record { ascending = tt; all = λ kind h. h; no_others = λ kind h. h })

pub empty_ascends : (types : List RecordType) → types ≡ [] → IsStrictlySortedBy type_cmp types
unfolding IsStrictlySortedBy
empty_ascends types empty = rw empty tt

-- ---- their codes

-- codes in ascending order, perhaps some of them more than once
abbrev Rising : ℕ → List ℕ → Type 0
Rising least [] = Unit {0}
Rising least (code ∷ codes) = (least ≤ code) × Rising code codes

ordered : (a b : Ordering) (x y : ℕ) → MatchOrdering a (x < y) (x ≡ y) (y < x) → ordering_then a b ≡ Less → x ≤ y
ordered Less b x y h e = omega arith
ordered Equal b x y h e = omega arith
ordered Greater b x y h e = absurd cc

codes_ordered : (s t : RecordType) → type_cmp s t ≡ Less → type_code s ≤ type_code t
codes_ordered s t h =
    ordered (nat_cmp (type_code s) (type_code t)) (bool_cmp (is_unknown s) (is_unknown t)) (type_code s) (type_code t) (ranked (type_code s) (type_code t) (nat_cmp (type_code s) (type_code t)) refl) h

codes_rise : (record_type : RecordType) (types : List RecordType) → IsStrictlySortedBy type_cmp (record_type ∷ types) → Rising (type_code record_type) (map type_code types)
unfolding IsStrictlySortedBy
codes_rise record_type [] h = tt
codes_rise record_type (next ∷ types) h = (codes_ordered record_type next h.0.0, codes_rise next types h.1)

dedup_above : (least code : ℕ) (codes : List ℕ) → least ≤ code → Rising code codes → Above least (dedup_from nat_eq code codes)
dedup_above least code [] le h = (le, tt)
dedup_above least code (next ∷ codes) le h =
    let rises = h.0 in
    let M : Bool → Type 0 = λ b. nat_eq next code ≡ b → Above least (cond b (dedup_from nat_eq code codes) (code ∷ dedup_from nat_eq next codes)) in
    let cases : (b : Bool) → M b = λ b. elim b as M [
      | true ↦ λ e. dedup_above least code codes le (let P : ℕ → Type 0 = λ n. Rising n codes in subst P (eqb-true next code e) h.1)
      | false ↦ λ e. (le, dedup_above (code + 1) next codes (let apart = eqb-false next code e in omega arith) h.1)
    ] in
    cases (nat_eq next code) refl

pub set_codes_above : (types : List RecordType) → IsStrictlySortedBy type_cmp types → Above 0 (set_codes types)
set_codes_above [] h = tt
set_codes_above (kind ∷ types) h = dedup_above 0 (type_code kind) (map type_code types) (omega arith) (codes_rise kind types h)

-- ---- their bytes read back

windows_back : (ws : List Window) → AllByRecursion IsWritten ws → windows_of (flat_map window_bytes ws) ≡ ws
windows_back [] h = windows_none
windows_back (w ∷ ws) h = windows_before w (flat_map window_bytes ws) ∙ ap (λ others. w ∷ others) (windows_back ws h.1)

bounds_back : (ws : List Window) → AllByRecursion IsWritten ws → in_bounds ws ≡ true
bounds_back [] h = refl
bounds_back (w ∷ ws) h =
    let some = le-leb 1 (length w.octets) h.0.some in
    let zeros : ends_in_zeros w.octets ≡ true = ap (list_all (λ octet. octet == 0)) (drop_all 32 w.octets h.0.few) in
    ap (λ b. (b || is_empty ws) && ends_in_zeros w.octets && in_bounds ws) some ∙ (ap (λ b. b && in_bounds ws) zeros ∙ bounds_back ws h.1)

pub sets_come_back : SetsComeBack
sets_come_back codes bytes e =
    let back : windows_of bytes ≡ e.windows = ap windows_of e.spelled ∙ windows_back e.windows e.written in
    (ap in_bounds back ∙ bounds_back e.windows e.written, ap windows_codes back ∙ e.same)

-- ---- what is not empty

-- a set has types only if types were listed
pub listed_some : (listed types : List RecordType) → IsSetOf listed types → 1 ≤ length types → 1 ≤ length listed
listed_some listed [] set h = absurd (omega arith)
listed_some listed (kind ∷ types) set h = let found = set.no_others kind (0, omega arith, refl) in omega (arith, found.1)

pub codes_some : (types : List RecordType) → 1 ≤ length (set_codes types) → 1 ≤ length types
codes_some [] h = h
codes_some (kind ∷ types) h = omega arith

module _ {S A : Type 0} (next : S → Option A → S → Type 0) where
  -- calls that returned items began with one
  pub began : (xs : List A) (s t : S) → Yields next s xs t → 1 ≤ length xs → YieldsSome next s
  began [] s t run some = absurd (omega arith)
  began (x ∷ xs) s t run some = (x, run.0, run.1)

  -- so did those before one more
  pub began-or : (xs : List A) (s t u : S) (x : A) → Yields next s xs t → next t (Some x) u → YieldsSome next s
  began-or [] s t u x run step = let P : S → Type 0 = λ v. next v (Some x) u in (x, u, subst P (sym run) step)
  began-or (y ∷ ys) s t u x run step = began (y ∷ ys) s t run (omega arith)

-- ---- results

-- what succeeds does not fail
pub not_failed : {A : Type 0} (P : A → Type 0) (Q : DecodeError → Type 0) (r : Result A DecodeError) → IsOkAnd r P → IfErr r Q
not_failed P Q (Ok x) h = tt
not_failed P Q (Err e) h = absurd h

-- the codes of all types, each once
pub coded : (types : List RecordType) (index : ℕ) (codes once : List ℕ) → codes ++ map type_code (drop index types) ≡ map type_code types → length types ≤ index
    → IsFiltered (DiffersFromLast nat_eq) [] codes once → once ≡ set_codes types
coded types index codes once done end kept =
    let all : codes ≡ map type_code types = sym (append-nil codes) ∙ (ap (λ l. codes ++ map type_code l) (sym (drop_all index types end)) ∙ done) in
    dedup_is nat_eq codes once kept ∙ ap (dedup nat_eq) all

pub coded_above : (types : List RecordType) (index : ℕ) (codes once : List ℕ) → codes ++ map type_code (drop index types) ≡ map type_code types → length types ≤ index
    → IsFiltered (DiffersFromLast nat_eq) [] codes once → IsStrictlySortedBy type_cmp types → Above 0 once
coded_above types index codes once done end kept ascending = rw (coded types index codes once done end kept) (set_codes_above types ascending)

-- ---- types that already ascend

pub sorted_end : (record_type : RecordType) (types : List RecordType) (index : ℕ) → length types ≤ index → IsStrictlySortedBy type_cmp (record_type ∷ drop index types)
unfolding IsStrictlySortedBy
sorted_end record_type types index end = rw (drop_all index types end) (tt, tt)

less_all : (x y : RecordType) (ys : List RecordType) → type_cmp x y ≡ Less → AllByRecursion (λ z. type_cmp y z ≡ Less) ys → AllByRecursion (λ z. type_cmp x z ≡ Less) ys
less_all x y [] h all = tt
less_all x y (z ∷ ys) h all = (types_total.trans x y z h all.0, less_all x y ys h all.1)

codes_less : (x y : RecordType) → type_code x < type_code y → type_cmp x y ≡ Less
codes_less x y h = let less : nat_lt (type_code x) (type_code y) ≡ true = lt-ltb (type_code x) (type_code y) h in rw less refl

pub sorted_more : (x y : RecordType) (ys : List RecordType) → type_code x < type_code y → IsStrictlySortedBy type_cmp (y ∷ ys) → IsStrictlySortedBy type_cmp (x ∷ y ∷ ys)
unfolding IsStrictlySortedBy
sorted_more x y ys h sorted = let less = codes_less x y h in ((less, less_all x y ys less sorted.0), sorted)

pub settled_already : (types : List RecordType) → IsStrictlySortedBy type_cmp types → IsSetOf types types
settled_already types ascending = record { ascending = ascending; all = λ kind h. h; no_others = λ kind h. h }

pub sorted_on : (types others : List RecordType) (last : RecordType) (index : ℕ) (other : RecordType) → index < length others
    → type_code last < type_code (get_or others index other)
    → (IsStrictlySortedBy type_cmp (last ∷ drop index others) → IsStrictlySortedBy type_cmp types)
    → IsStrictlySortedBy type_cmp (get_or others index other ∷ drop (index + 1) others) → IsStrictlySortedBy type_cmp types
sorted_on types others last index other within less all sorted =
    let next : drop index others ≡ get_or others index other ∷ drop (index + 1) others = at_drop_more (λ l. l) others index other within in
    let P : List RecordType → Type 0 = λ l. IsStrictlySortedBy type_cmp (last ∷ l) in
    all (subst P (sym next) (sorted_more last (get_or others index other) (drop (index + 1) others) less sorted))

-- ---- a type that is looked for

searchable : (types : List RecordType) (record_type : RecordType) → IsStrictlySortedBy type_cmp types → IsNonDecreasingBy (λ y. ordering_index (type_cmp y record_type)) types
searchable types record_type ascending =
    searchable_from_sorted types_total (λ (t : RecordType). t) types record_type
    (λ k d low next. rw (types_total.antisymm (get_or types (k + 1) d) (get_or types k d), Less-from_sorted type_cmp types k (k + 1) d ascending (omega arith) next) refl)

unequal : (o : Ordering) → is_eq o ≡ true → (o ≡ Less) ⊎ (o ≡ Greater) → ⊥
unequal Less e h = cc
unequal Equal e (inl h) = cc
unequal Equal e (inr h) = cc
unequal Greater e h = cc

absent : (types : List RecordType) (record_type : RecordType) (i : ℕ) → IsPartitionPoint (λ y. type_cmp y record_type ≡ Less) (λ y. type_cmp y record_type ≡ Greater) types i → Contains types record_type → ⊥
absent types record_type i (before, after) (k, within, is) =
    elim (cases_lt k i) [
      | inl h ↦ unequal (type_cmp record_type record_type) (types_equal.refl record_type) (inl (subst (λ t. type_cmp t record_type ≡ Less) is (before k record_type (omega arith) h)))
      | inr h ↦ unequal (type_cmp record_type record_type) (types_equal.refl record_type) (inr (subst (λ t. type_cmp t record_type ≡ Greater) is (after k record_type h within)))
    ]

pub searched : (types : List RecordType) (record_type : RecordType) (r : Result ℕ ℕ) → IsStrictlySortedBy type_cmp types → IsSearchInRange r (length types)
    → IsBinarySearchResult (λ y. type_cmp y record_type) types r → (is_ok r ≡ true) ↔ Contains types record_type
searched types record_type (Ok i) ascending within found = (λ yes. (i, within, types_tied (get_or types i record_type) record_type (rw (found record_type) refl)), λ has. refl)
searched types record_type (Err i) ascending within found = (λ yes. absurd cc, λ has. absurd (absent types record_type i (found (searchable types record_type ascending)) has))

pub ruleset ascending_steps = (empty_ascends, sorted_end, sorted_on)
