-- The order, equality and hash of names (RFC 4034, section 6.1, and RFC 4343).
use Rattle.std.specs.Prelude.{◌≡◌, ℕ, Bool, nat_eq, if◌then◌else◌, List, [], ◌∷◌, ◌++◌, reverse, codes}
use Rattle.std.specs.Cmp.Lexicographic.{pointwise, slice_cmp}
use Rattle.std.specs.Ordering.{on, then_cmp, bool_cmp, eq_of_both, eq_by_cmp}
use Rattle.std.specs.declared.cmp.Ordering.{Ordering}
use Rattle.dnw_base.specs.Names.{NameValue, lower, wire}
use Rattle.dnw_name_form.specs.LabelOrder.{octets_cmp}

-- the labels from the last one, with each octet by its order, and a name before those that end in it
abbrev pub labels_cmp_by : (ℕ → ℕ → Ordering) → List (List ℕ) → List (List ℕ) → Ordering
labels_cmp_by order = on reverse (slice_cmp (slice_cmp order))

-- the labels from the last one, in lower case
abbrev pub canonical : List (List ℕ) → List (List ℕ)
canonical ls = lower (reverse ls)

-- the canonical order of labels: as unsigned octets, a prefix first
abbrev pub labels_cmp : List (List ℕ) → List (List ℕ) → Ordering
labels_cmp = on canonical (slice_cmp octets_cmp)

-- the same with capitals as they are
abbrev pub labels_cmp_case : List (List ℕ) → List (List ℕ) → Ordering
labels_cmp_case = on reverse (slice_cmp octets_cmp)

-- every relative name before every fully qualified one
abbrev pub flags_cmp : NameValue → NameValue → Ordering
flags_cmp = on (λ n. n.is_fqdn) bool_cmp

abbrev pub name_cmp : NameValue → NameValue → Ordering
name_cmp = then_cmp flags_cmp (on (λ n. n.labels) labels_cmp)

abbrev pub name_cmp_case : NameValue → NameValue → Ordering
name_cmp_case = then_cmp flags_cmp (on (λ n. n.labels) labels_cmp_case)

-- each label has the same octets
abbrev pub labels_eq : List (List ℕ) → List (List ℕ) → Bool
labels_eq = pointwise (pointwise nat_eq)

-- both are fully qualified or both relative, and the labels are the same in lower case
abbrev pub name_eq : NameValue → NameValue → Bool
name_eq = eq_of_both (eq_by_cmp flags_cmp) (on (λ n. lower n.labels) labels_eq)

-- the same with capitals as they are
abbrev pub name_eq_case : NameValue → NameValue → Bool
name_eq_case = eq_of_both (eq_by_cmp flags_cmp) (on (λ n. n.labels) labels_eq)

-- A name is fed to a hasher in one write: its wire form in lower case, and whether it is fully qualified.
abbrev pub name_hash_input : NameValue → List (List ℕ)
name_hash_input n = (wire (lower n.labels) ++ (if n.is_fqdn then 1 else 0) ∷ []) ∷ []

-- the zone's labels are the last ones (RFC 1034, section 4.2), but for ASCII case (RFC 4343)
abbrev pub IsZoneOf : List (List ℕ) → List (List ℕ) → Type 0
IsZoneOf zone ls = (front : List (List ℕ)) × (rest : List (List ℕ)) × (ls ≡ front ++ rest) × (lower rest ≡ lower zone)

-- the same with capitals as they are
abbrev pub IsZoneOfCase : List (List ℕ) → List (List ℕ) → Type 0
IsZoneOfCase zone ls = (front : List (List ℕ)) × (ls ≡ front ++ zone)

-- the label `localhost` (RFC 6761, section 6.3)
abbrev pub localhost : List ℕ
localhost = codes "localhost"

-- the last label is `localhost`, but for ASCII case
abbrev pub IsLocalhost : List (List ℕ) → Type 0
IsLocalhost ls = IsZoneOf (localhost ∷ []) ls
