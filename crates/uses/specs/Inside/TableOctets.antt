-- How a table keeps names: their wire forms in one buffer, and where each begins.
use Rattle.std.specs.Prelude.{◌≡◌, ℕ, zero, suc, ◌+◌, ◌≤◌, List, [], ◌∷◌, length, map, take, drop}
use Rattle.std.specs.List.{flat_map, AllByRecursion}
use Rattle.std.specs.List.Sorted.{IsStrictlySortedBy}
use Rattle.dns_names_wire.specs.Words.{AreLabels, labels_cmp, wire}
use Rattle.uses.specs.Tables.{max_table_octets}

-- the labels of the wire form in front of the octets, at most n of them
abbrev pub table_labels : ℕ → List ℕ → List (List ℕ)
table_labels zero octets = []
table_labels (suc n) [] = []
table_labels (suc n) (zero ∷ octets) = []
table_labels (suc n) (suc c ∷ octets) = take (suc c) octets ∷ table_labels n (drop (suc c) octets)

-- the labels of the name that begins at an offset
unfoldable pub table_name : List ℕ → ℕ → List (List ℕ)
table_name octets start = table_labels (length octets) (drop start octets)

-- the names that begin at these offsets
abbrev pub names_at : List ℕ → List ℕ → List (List (List ℕ))
names_at octets starts = map (table_name octets) starts

-- where names begin whose wire forms follow one another from an offset on
abbrev pub offsets : ℕ → List (List (List ℕ)) → List ℕ
offsets p [] = []
offsets p (n ∷ ns) = p ∷ offsets (p + length (wire n)) ns

-- The octets are the wire forms of these names, each begins at its offset, and they ascend.
pub record IsTable (octets starts : List ℕ) (names : List (List (List ℕ))) : Type 0 where
  pub octets_are : octets ≡ flat_map wire names
  pub starts_are : starts ≡ offsets 0 names
  pub labels : AllByRecursion AreLabels names
  pub ascend : IsStrictlySortedBy labels_cmp names
  pub fits : length octets ≤ max_table_octets
