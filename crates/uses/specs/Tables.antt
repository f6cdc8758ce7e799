-- Tables of names in canonical order (RFC 4034, section 6.1).
use Rattle.std.specs.Prelude.{◌≡◌, ℕ, ◌+◌, ◌≤◌, ◌<◌, List, length}
use Rattle.std.specs.List.{AllWithin, HoldsAt, flat_map}
use Rattle.std.specs.declared.cmp.Ordering.TheVariants.{Less, Equal, Greater}
use Rattle.dns_names_wire.specs.Words.{labels_cmp, wire}

-- the most octets of all wire forms of a table: offsets of 32 bits
abbrev pub max_table_octets : ℕ
max_table_octets = 4294967295

-- Every name of the table comes before this one.
abbrev pub ComesLast : List (List (List ℕ)) → List (List ℕ) → Type 0
ComesLast names ls = AllWithin (λ n. labels_cmp n ls ≡ Less) names 0 (length names)

-- The wire forms of all these names and of one more fit into a table.
abbrev pub TableHasRoom : List (List (List ℕ)) → List (List ℕ) → Type 0
TableHasRoom names ls = length (flat_map wire names) + length (wire ls) ≤ max_table_octets

-- The name at this index has these labels, but for ASCII case.
abbrev pub IsAt : List (List (List ℕ)) → List (List ℕ) → ℕ → Type 0
IsAt names ls index = (index < length names) × HoldsAt (λ n. labels_cmp n ls ≡ Equal) names index

-- No name has these labels: those before this index come before them, and those from it on come after them.
pub record BelongsAt (names : List (List (List ℕ))) (ls : List (List ℕ)) (index : ℕ) : Type 0 where
  pub within : index ≤ length names
  pub before : AllWithin (λ n. labels_cmp n ls ≡ Less) names 0 index
  pub after : AllWithin (λ n. labels_cmp n ls ≡ Greater) names index (length names)
