-- Names: their value, size, wire form and lower case (RFC 1035, sections 2.3.3, 2.3.4 and 3.1).
use Rattle.std.specs.Prelude.{◌≡◌, ℕ, ◌+◌, ◌≤◌, Bool, List, [], ◌∷◌, ◌++◌, length, map, sum_by}
use Rattle.std.specs.List.{flat_map, AllByRecursion}
use Rattle.std.specs.Char.{to_ascii_lowercase}
use Rattle.dnw_base.specs.Limits.{max_name}
use Rattle.dnw_base.specs.Labels.{IsLabel, wildcard}

-- A name: whether it is fully qualified, and its labels from the left.
pub record NameValue : Type 0 where
  pub is_fqdn : Bool
  pub labels : List (List ℕ)

-- the octets of the uncompressed form: for each label a length octet and its bytes, and the closing zero
abbrev pub encoded_size : List (List ℕ) → ℕ
encoded_size ls = sum_by (λ l. length l + 1) ls + 1

-- Each is a label, and together they take at most 255 octets.
pub record AreLabels (ls : List (List ℕ)) : Type 0 where
  pub each : AllByRecursion IsLabel ls
  pub fit : encoded_size ls ≤ max_name

abbrev pub label_wire : List ℕ → List ℕ
label_wire l = length l ∷ l

abbrev pub labels_wire : List (List ℕ) → List ℕ
labels_wire ls = flat_map label_wire ls

-- the uncompressed form
abbrev pub wire : List (List ℕ) → List ℕ
wire ls = labels_wire ls ++ 0 ∷ []

-- A to Z as a to z, and all other bytes as they are
abbrev pub lower : List (List ℕ) → List (List ℕ)
lower ls = map (map to_ascii_lowercase) ls

-- the first label is `*` (RFC 4592, section 2.1.1)
abbrev pub IsWildcard : List (List ℕ) → Type 0
IsWildcard ls = (rest : List (List ℕ)) × (ls ≡ wildcard ∷ rest)
