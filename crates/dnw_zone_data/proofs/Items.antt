-- The items of lists that data end with, and words after white space.
use Rattle.std.proofs.Common.{◌≡◌, ◌≤◌, ℕ, suc, ◌+◌, Bool, true, false, List, [], ◌∷◌, ◌++◌, length, take, drop, inl, inr, refl, rules, tests, if◌then◌else◌}
use Rattle.std.specs.Prelude.{nat_lt, Some, None, Option}
use Rattle.std.proofs.lemmas.Bool.{cases_Bool}
use Rattle.dnw_base.specs.declared.error.DecodeError.TheVariants.{InsufficientBytes}
use Rattle.dnw_data.specs.declared.kind.ListKind.{ListKind}
use Rattle.dnw_data.specs.Lists.{tag_of, count_of, item_size, item_fault, may_come, out_of_order, fault_within}
use Rattle.std.specs.Option.{option_or}
use Rattle.dnw_base.specs.declared.error.DecodeError.{DecodeError}
use Rattle.dnw_zone_data.specs.Words.{is_space, is_end, after_spaces}

-- the first item is whole and may come, and the others are in order
abbrev pub IsItemFirst : ℕ → ListKind → ℕ → List ℕ → Type 0
IsItemFirst n kind least left =
    (item_size kind left ≤ length left) × (may_come kind least (tag_of kind left) (count_of kind left) ≡ true)
    × (fault_within n kind (tag_of kind left + 1) (drop (item_size kind left) left) ≡ None)

by_tests : (n least : ℕ) (kind : ListKind) (left : List ℕ) (short may : Bool) (fault : Option DecodeError) → nat_lt (length left) (item_size kind left) ≡ short
    → may_come kind least (tag_of kind left) (count_of kind left) ≡ may
    → (if short then Some InsufficientBytes
    else if may then option_or fault (fault_within n kind (tag_of kind left + 1) (drop (item_size kind left) left)) else Some (out_of_order kind)) ≡ None
    → IsItemFirst n kind least left
by_tests n least kind left true may fault is come fine = absurd cc
by_tests n least kind left false false fault is come fine = absurd cc
by_tests n least kind left false true (Some error) is come fine = absurd cc
by_tests n least kind left false true None is come fine = (search (rules, tests), come, fine)

pub item_first : (n least : ℕ) (kind : ListKind) (first : ℕ) (others : List ℕ) → fault_within (suc n) kind least (first ∷ others) ≡ None
    → IsItemFirst n kind least (first ∷ others)
item_first n least kind first others fine =
    let left = first ∷ others in
    by_tests n least kind left (nat_lt (length left) (item_size kind left)) (may_come kind least (tag_of kind left) (count_of kind left))
    (item_fault kind (take (item_size kind left) left)) refl refl fine

-- white space that is left out once is left out
pub starts_twice : (text : List ℕ) → after_spaces (after_spaces text) ≡ after_spaces text
starts_twice [] = refl
starts_twice (c ∷ text) = elim (cases_Bool (is_space c)) [
  | inl space ↦ rw space (starts_twice text)
  | inr other ↦ rw (other, other) refl
]

pub end_append : (a b : List ℕ) → is_end a ≡ true → is_end b ≡ true → is_end (a ++ b) ≡ true
end_append [] b h k = k
end_append (c ∷ a) b h k = h
