-- Numbers of names, sorted by the names' keys.
use Rattle.std.proofs.Common.{◌≡◌, ℕ, ◌+◌, ◌<◌, Bool, true, false, List, [], ◌∷◌, ◌++◌, length, map, get_or, refl, sym, ap, ◌∙◌, subst, arith, nat_eq, rules, tests}
use Rattle.smallvec.specs.SmallVec.{SmallVec}
use Rattle.std.specs.Cmp.{IsTotalOrder}
use Rattle.std.specs.Cmp.Lexicographic.{slice_cmp}
use Rattle.std.specs.List.{All, range_with_len, IsDistinct}
use Rattle.std.specs.List.Sorted.{IsPermutation, IsSorted}
use Rattle.std.specs.Ordering.{nat_cmp, is_lt, ordering_then, ordering_reverse}
use Rattle.std.specs.declared.cmp.Ordering.{Ordering}
use Rattle.std.specs.declared.cmp.Ordering.TheVariants.{Less, Equal, Greater}
use Rattle.std.proofs.lemmas.Bool.{eqb-true, eqb-false}
use Rattle.std.proofs.lemmas.Cmp.{nat_cmp_total, nat_eq_equiv, nat_list_cmp_total, lists_total, on_total, then_total, ranked}
use Rattle.std.proofs.lemmas.List.{get_or-map, length-map, length_push, map-append, map-id}
use Rattle.std.proofs.lemmas.List.FromFn.{get_or-range_with_len, length-range_with_len, map-range_with_len_more}
use Rattle.std.proofs.lemmas.List.Sorted.{All-permutation, IsPermutation-map}
use Rattle.std.proofs.lemmas.Map.Keys.{IsDistinct-IsPermutation, IsDistinct-from_apart, apart_from_distinct, sorted_from_all_adjacent}
use Rattle.dnw_name_order.specs.Order.{canonical, labels_cmp}
use Rattle.dnw_name_order.specs.SortKeys.{sort_key}
use Rattle.dnw_name_order.proofs.SortKeys.{keys_compare}
use Rattle.dnw_name_order.specs.Sorted.{AreInOrder, numbers_cmp}
use Rattle.dnw_name_order.specs.Inside.Keyed.{AreNumbered, AreSorted, entry_cmp, key_of, number_of}

abbrev Names : Type 0
Names = List (List (List ℕ))

abbrev Entry : Type 0
Entry = SmallVec ℕ × ℕ

-- the entry has the key of the name with its number
abbrev HasKey : Names → Entry → Type 0
HasKey names entry = key_of entry ≡ sort_key (get_or names (number_of entry) [])

-- the entries have the keys of these names, in turn, and the numbers from 0
abbrev AreKeyed : Names → List Entry → Type 0
AreKeyed names entries = (map key_of entries ≡ map sort_key names) × AreNumbered entries

as_many : (names : Names) (entries : List Entry) → AreKeyed names entries → length entries ≡ length names
as_many names entries keyed = sym (length-map entries key_of) ∙ ap length keyed.0 ∙ length-map names sort_key

has_keys : (names : Names) (entries : List Entry) → AreKeyed names entries → All (HasKey names) entries
has_keys names entries keyed k d within =
    let entry = get_or entries k d in
    let many = as_many names entries keyed in
    let inside : k < length names = omega (arith, many, within) in
    let number : number_of entry ≡ k =
    omega (arith, get_or-map number_of entries k d 0 within, ap (λ (ks : List ℕ). get_or ks k 0) keyed.1, get_or-range_with_len 0 (length entries) k 0 within) in
    let key : key_of entry ≡ sort_key (get_or names k []) =
    sym (get_or-map key_of entries k d [] within) ∙ ap (λ ks. get_or ks k []) keyed.0 ∙ get_or-map sort_key names k [] [] inside in
    key ∙ ap (λ n. sort_key (get_or names n [])) (sym number)

-- entries compare as their numbers do
compare_as : (names : Names) (x y : Entry) → HasKey names x → HasKey names y
    → entry_cmp x y ≡ numbers_cmp names (number_of x) (number_of y)
compare_as names x y p q =
    let a = get_or names (number_of x) [] in
    let b = get_or names (number_of y) [] in
    let keys : slice_cmp nat_cmp (key_of x) (key_of y) ≡ labels_cmp a b =
    ap (λ l. slice_cmp nat_cmp l (key_of y)) p ∙ ap (slice_cmp nat_cmp (sort_key a)) q ∙ keys_compare a b in
    ap (λ o. ordering_then o (nat_cmp (number_of x) (number_of y))) keys

pub entries_total : IsTotalOrder entry_cmp
entries_total = then_total (on_total key_of nat_list_cmp_total) (on_total number_of nat_cmp_total)

numbers_total : (names : Names) → IsTotalOrder (numbers_cmp names)
numbers_total names =
    then_total (on_total (λ number. get_or names number []) (on_total canonical (lists_total nat_list_cmp_total))) nat_cmp_total

-- the numbers differ
apart : (n : ℕ) → IsDistinct nat_eq (range_with_len 0 n)
apart n = IsDistinct-from_apart nat_eq (range_with_len 0 n) (λ i j d before within.
    let few = length-range_with_len 0 n in
    let one = get_or-range_with_len 0 n i d (omega (arith, few, before, within)) in
    let other = get_or-range_with_len 0 n j d (omega (arith, few, within)) in
    differ (get_or (range_with_len 0 n) i d) (get_or (range_with_len 0 n) j d) (omega (arith, one, other, before)))
  where
    differ : (x y : ℕ) → x < y → nat_eq x y ≡ false
    differ x y before = unequal (nat_eq x y) refl
      where
        unequal : (b : Bool) → nat_eq x y ≡ b → b ≡ false
        unequal true e = absurd (omega (arith, before, eqb-true x y e))
        unequal false e = refl

-- a number that is not above another one, and not the same, is below
below : (names : Names) (i j : ℕ) (o : Ordering) → numbers_cmp names i j ≡ o → is_lt (numbers_cmp names j i) ≡ false → nat_eq i j ≡ false → o ≡ Less
below names i j Less e not other = refl
below names i j Greater e not other =
    let back : numbers_cmp names j i ≡ Less = (numbers_total names).antisymm j i ∙ ap ordering_reverse e in
    absurd (search (rules, tests, sym (ap is_lt back) ∙ not))
below names i j Equal e not other =
    let same : nat_cmp i j ≡ Equal = tied (labels_cmp (get_or names i []) (get_or names j [])) e in
    absurd (eqb-false i j other (equal (nat_cmp i j) refl same))
  where
    tied : (o : Ordering) → ordering_then o (nat_cmp i j) ≡ Equal → nat_cmp i j ≡ Equal
    tied Less f = absurd (search (rules, tests, f))
    tied Equal f = f
    tied Greater f = absurd (search (rules, tests, f))

    equal : (o : Ordering) → o ≡ nat_cmp i j → nat_cmp i j ≡ Equal → i ≡ j
    equal Less g f = absurd (search (rules, tests, g ∙ f))
    equal Equal g f = ranked i j Equal g
    equal Greater g f = absurd (search (rules, tests, g ∙ f))

-- neighbours ascend
step : (names : Names) (sorted : List Entry) → All (HasKey names) sorted → IsSorted entry_cmp sorted → IsDistinct nat_eq (map number_of sorted)
    → (k : ℕ) → k + 1 < length (map number_of sorted)
    → numbers_cmp names (get_or (map number_of sorted) k 0) (get_or (map number_of sorted) (k + 1) 0) ≡ Less
step names [] has up distinct k within = absurd (omega (arith, within))
step names (d ∷ sorted) has up distinct k within =
    let all = d ∷ sorted in
    let inside : k + 1 < length all = omega (arith, within, length-map all number_of) in
    let x = get_or all k d in
    let y = get_or all (k + 1) d in
    let first : get_or (map number_of all) k 0 ≡ number_of x = get_or-map number_of all k d 0 (omega (arith, inside)) in
    let second : get_or (map number_of all) (k + 1) 0 ≡ number_of y = get_or-map number_of all (k + 1) d 0 inside in
    let kept : is_lt (entry_cmp y x) ≡ false = up k d (omega arith) inside in
    let not : is_lt (numbers_cmp names (number_of y) (number_of x)) ≡ false =
    ap is_lt (sym (compare_as names y x (has (k + 1) d inside) (has k d (omega (arith, inside))))) ∙ kept in
    let other : nat_eq (number_of x) (number_of y) ≡ false =
    subst (λ n. nat_eq (number_of x) n ≡ false) second (subst (λ n. nat_eq n (get_or (map number_of all) (k + 1) 0) ≡ false) first
    (apart_from_distinct nat_eq (map number_of all) k (k + 1) 0 distinct (omega arith) within)) in
    rw (first, second) (below names (number_of x) (number_of y) (numbers_cmp names (number_of x) (number_of y)) refl not other)

-- sorted entries have the numbers in the order of the names
pub in_order : (names : Names) (entries sorted : List Entry) → AreNumbered entries → AreSorted entries sorted
    → map key_of entries ≡ map sort_key names → AreInOrder names (map number_of sorted)
in_order names entries sorted numbered are keys =
    let keyed : AreKeyed names entries = (keys, numbered) in
    let once : IsPermutation (range_with_len 0 (length names)) (map number_of sorted) =
    subst (λ ns. IsPermutation ns (map number_of sorted)) (keyed.1 ∙ ap (range_with_len 0) (as_many names entries keyed))
    (IsPermutation-map number_of entries sorted are.moved) in
    let distinct : IsDistinct nat_eq (map number_of sorted) =
    IsDistinct-IsPermutation nat_eq nat_eq_equiv.symm (range_with_len 0 (length names)) (map number_of sorted) once (apart (length names)) in
    let has = All-permutation (HasKey names) entries sorted are.moved (has_keys names entries keyed) in
    record {
      each_once = once;
      ascend = sorted_from_all_adjacent (numbers_total names) (map number_of sorted) 0 (step names sorted has are.ascend distinct);
    }

-- ---- one more entry

range_more : (n : ℕ) → range_with_len 0 (n + 1) ≡ range_with_len 0 n ++ n ∷ []
range_more n =
    let moved = map-range_with_len_more (λ (x : ℕ). x) 0 n n (omega arith) in
    sym (map-id (range_with_len 0 (n + 1))) ∙ moved ∙ ap (λ (l : List ℕ). l ++ n ∷ []) (map-id (range_with_len 0 n))

pub numbered_more : (entries : List Entry) (key : SmallVec ℕ) (number : ℕ) → AreNumbered entries → number ≡ length entries → AreNumbered (entries ++ (key, number) ∷ [])
numbered_more entries key number h count =
    map-append number_of entries ((key, number) ∷ [])
    ∙ ap (λ (l : List ℕ). l ++ number ∷ []) h
    ∙ ap (λ n. range_with_len 0 (length entries) ++ n ∷ []) count
    ∙ sym (range_more (length entries))
    ∙ sym (ap (range_with_len 0) (length_push entries (key, number)))
