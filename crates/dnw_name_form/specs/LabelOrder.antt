-- The order of labels (RFC 4034, section 6.1): as strings of unsigned octets from the left, a prefix first, and with
-- capital ASCII letters as small ones (RFC 4343).
use Rattle.std.specs.Prelude.{◌≡◌, ℕ, ◌<◌, Bool, nat_eq, List, [], ◌∷◌, length, map}
use Rattle.std.specs.Char.{to_ascii_lowercase}
use Rattle.std.specs.List.{AllByRecursion}
use Rattle.std.specs.Cmp.{IsTotalOrder}
use Rattle.std.specs.Cmp.Lexicographic.{pointwise, slice_cmp}
use Rattle.std.specs.Ordering.{nat_cmp, on, ordering_reverse}
use Rattle.std.specs.declared.cmp.Ordering.{Ordering}
use Rattle.std.specs.declared.cmp.Ordering.TheVariants.{Less, Equal}

-- A to Z as a to z, and all other octets as they are
abbrev pub lower_label : List ℕ → List ℕ
lower_label l = map to_ascii_lowercase l

-- the first octets that are not equal decide, and else the lengths
abbrev pub octets_cmp : List ℕ → List ℕ → Ordering
octets_cmp = slice_cmp nat_cmp

abbrev pub label_cmp : List ℕ → List ℕ → Ordering
label_cmp = on lower_label octets_cmp

abbrev pub label_eq : List ℕ → List ℕ → Bool
label_eq = on lower_label (pointwise nat_eq)

-- an octet with a capital letter as its small one
abbrev pub octet_cmp_ignore_case : ℕ → ℕ → Ordering
octet_cmp_ignore_case = on to_ascii_lowercase nat_cmp

-- A total preorder on the values for which `P` holds.
pub record IsTotalPreorder {K : Type 0} (P : K → Type 0) (R : K → K → Ordering) : Type 0 where
  pub antisymm : (x y : K) → P x → P y → R x y ≡ ordering_reverse (R y x)
  pub trans : (x y z : K) → P x → P y → P z → R x y ≡ Less → R y z ≡ Less → R x z ≡ Less
  pub congr : (x y z : K) → P x → P y → P z → R x y ≡ Equal → R x z ≡ R y z

abbrev pub IsOctet : ℕ → Type 0
IsOctet n = n < 256

abbrev pub AreOctets : List ℕ → Type 0
AreOctets l = AllByRecursion IsOctet l

-- an order of all numbers is one of the octets
pub of_octets : {R : ℕ → ℕ → Ordering} → IsTotalOrder R → IsTotalPreorder IsOctet R
of_octets total = record {
  antisymm = λ x y _ _. total.antisymm x y;
  trans = λ x y z _ _ _. total.trans x y z;
  congr = λ x y z _ _ _. total.congr x y z;
}

-- how a label is fed to a hasher: its length octet and its octets in lower case
abbrev pub label_hash_input : List ℕ → List (List ℕ)
label_hash_input l = (length (lower_label l) ∷ []) ∷ lower_label l ∷ []
