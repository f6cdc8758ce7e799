-- Sets of keys: lists in strictly ascending order that have the same elements are the same list, and a sort and a `dedup` make one.
use Rattle.std.proofs.Common.{BTreeSet, ◌≡◌, suc, zero, List, [], ◌∷◌, map, ◌⊎◌, inl, inr, sym, ◌∙◌, subst, arith, Bool, true}
use Rattle.std.specs.Cmp.{IsTotalOrder, IsEquivalence}
use Rattle.std.specs.List.{All, AllByRecursion, Contains, dedup}
use Rattle.std.specs.List.Sorted.{IsPermutation, IsSorted, IsStrictlySortedBy}
use Rattle.std.specs.Ordering.{on, eq_by_cmp}
use Rattle.std.specs.declared.cmp.Ordering.{Ordering}
use Rattle.std.specs.declared.cmp.Ordering.TheVariants.{Less}
use Rattle.std.proofs.lemmas.Bool.Decides.{same_from_decides}
use Rattle.std.proofs.lemmas.List.Kept.{Any-dedup, Contains-from_dedup, IsStrictlySortedBy-dedup}
use Rattle.std.proofs.lemmas.List.Sorted.{Contains-permutation, IsPermutation-sym}
use Rattle.std.proofs.lemmas.Map.Lookups.{btree_set_from_contains, CmpEqualImpliesEq}
use Rattle.std.proofs.lemmas.Map.Views.{btree_set_contains_iff}
use Rattle.std.proofs.lemmas.List.Elements.{All-cons, All-contains, All-nil, All-weaker, Contains-append_cases, Contains-append_left, Contains-append_right, Contains-push}

pub first_of : {X : Type 0} (x : X) (xs : List X) → Contains (x ∷ xs) x
first_of x xs = Contains-append_left (x ∷ []) xs x (Contains-push [] x)

pub later_of : {X : Type 0} (x : X) (xs : List X) (q : X) → Contains xs q → Contains (x ∷ xs) q
later_of x xs q h = Contains-append_right (x ∷ []) xs q h

pub none_of : {X : Type 0} (q : X) → Contains [] q → ⊥
none_of q (k, less, is) = omega (arith, less)

one_of : {X : Type 0} (x q : X) → Contains (x ∷ []) q → x ≡ q
one_of x q (zero, less, is) = is
one_of x q (suc k, less, is) = absurd (omega (arith, less))

pub cases_of : {X : Type 0} (x : X) (xs : List X) (q : X) → Contains (x ∷ xs) q → (x ≡ q) ⊎ Contains xs q
cases_of {X} x xs q h = either (Contains-append_cases (x ∷ []) xs q h)
  where
    either : Contains (x ∷ []) q ⊎ Contains xs q → (x ≡ q) ⊎ Contains xs q
    either (inl one) = inl (one_of x q one)
    either (inr more) = inr more

-- lists in strictly ascending order with the same elements
module _ {X : Type 0} {R : X → X → Ordering} (o : IsTotalOrder R) (exact : CmpEqualImpliesEq R) where
  pub same_elements : (xs ys : List X) → IsStrictlySortedBy R xs → IsStrictlySortedBy R ys
      → ((q : X) → Contains xs q → Contains ys q) → ((q : X) → Contains ys q → Contains xs q) → xs ≡ ys
  same_elements xs ys up up' to back =
      let s : BTreeSet X = record { keys = xs } in
      let t : BTreeSet X = record { keys = ys } in
      let in-s = btree_set_contains_iff o exact s in
      let in-t = btree_set_contains_iff o exact t in
      btree_set_from_contains o s t up up' (λ q. same_from_decides _ _ (λ h. to q ((in-s q).0 h), λ h. (in-s q).1 (back q h)) (in-t q)) exact

-- ---- what a list of values has of their keys

Contains_keys : {X Y : Type 0} (f : X → Y) (xs : List X) → All (λ x. Contains (map f xs) (f x)) xs
Contains_keys {X} f [] = All-nil (λ (x : X). Contains [] (f x))
Contains_keys f (x ∷ xs) =
    All-cons (λ y. Contains (f x ∷ map f xs) (f y)) x xs (first_of (f x) (map f xs))
    (All-weaker _ _ (λ z h. later_of (f x) (map f xs) (f z) h) xs (Contains_keys f xs))

Contains_map : {X Y : Type 0} (f : X → Y) (xs : List X) (x : X) → Contains xs x → Contains (map f xs) (f x)
Contains_map f xs x h = All-contains (λ y. Contains (map f xs) (f y)) xs x (Contains_keys f xs) h

-- an element of the keys is the key of an element
abbrev HasKey : {X Y : Type 0} (f : X → Y) → List X → Y → Type 0
HasKey {X} f xs q = (x : X) × Contains xs x × (f x ≡ q)

has_key : {X Y : Type 0} (f : X → Y) (x : X) (xs : List X) (q : Y) → (f x ≡ q) ⊎ HasKey f xs q → HasKey f (x ∷ xs) q
has_key f x xs q (inl is) = (x, first_of x xs, is)
has_key f x xs q (inr (z, has, is)) = (z, later_of x xs z has, is)

or_later : {A B C : Type 0} → (B → C) → A ⊎ B → A ⊎ C
or_later f (inl a) = inl a
or_later f (inr b) = inr (f b)

Contains_from_map : {X Y : Type 0} (f : X → Y) (xs : List X) (q : Y) → Contains (map f xs) q → HasKey f xs q
Contains_from_map f [] q h = absurd (none_of q h)
Contains_from_map f (x ∷ xs) q h = has_key f x xs q (or_later (Contains_from_map f xs q) (cases_of (f x) (map f xs) q h))

AllByRecursion_map : {X Y : Type 0} (f : X → Y) (P : Y → Type 0) (xs : List X) → AllByRecursion (λ x. P (f x)) xs → AllByRecursion P (map f xs)
AllByRecursion_map f P [] h = tt
AllByRecursion_map f P (x ∷ xs) (one, more) = (one, AllByRecursion_map f P xs more)

IsStrictlySortedBy_map : {X Y : Type 0} (f : X → Y) (R : Y → Y → Ordering) (xs : List X) → IsStrictlySortedBy (on f R) xs → IsStrictlySortedBy R (map f xs)
unfolding IsStrictlySortedBy
IsStrictlySortedBy_map f R [] h = tt
IsStrictlySortedBy_map f R (x ∷ xs) (one, more) = (AllByRecursion_map f (λ y. R (f x) y ≡ Less) xs one, IsStrictlySortedBy_map f R xs more)

-- ---- a set: sorted by keys, and without duplicates

module _ {X Y : Type 0} (f : X → Y) (R : Y → Y → Ordering) (o : IsTotalOrder (on f R)) {E : X → X → Bool} (e : IsEquivalence E)
    (ties : (x y : X) → E x y ≡ eq_by_cmp (on f R) x y) (exact : (x y : X) → E x y ≡ true → f x ≡ f y) where
  pub set-ascends : (xs : List X) → IsSorted (on f R) xs → IsStrictlySortedBy R (map f (dedup E xs))
  set-ascends xs up = IsStrictlySortedBy_map f R (dedup E xs) (IsStrictlySortedBy-dedup o ties xs up)

  pub set-each : (all xs : List X) → IsPermutation all xs → (q : Y) → Contains (map f (dedup E xs)) q → Contains (map f all) q
  set-each all xs moved q h =
      let (x, has, is) = Contains_from_map f (dedup E xs) q h in
      subst (Contains (map f all)) is (Contains_map f all x (Contains-permutation xs all x (IsPermutation-sym all xs moved) (Contains-from_dedup E xs x has)))

  pub set-every : (all xs : List X) → IsPermutation all xs → (q : Y) → Contains (map f all) q → Contains (map f (dedup E xs)) q
  set-every all xs moved q h =
      let (x, has, is) = Contains_from_map f all q h in
      let (k, y, less, at, same) = Any-dedup e xs x (Contains-permutation all xs x moved has) in
      subst (Contains (map f (dedup E xs))) (sym (exact x y same) ∙ is) (Contains_map f (dedup E xs) y (k, less, at))
