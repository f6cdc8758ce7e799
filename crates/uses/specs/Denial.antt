-- The names that an NSEC record denies (RFC 4034, sections 4.1.1 and 6.1).
use Rattle.std.specs.Prelude.{◌≡◌, ◌≢◌, ◌⊎◌, ℕ, List}
use Rattle.std.specs.declared.cmp.Ordering.TheVariants.{Less}
use Rattle.dns_names_wire.specs.Words.{labels_cmp}

-- A name comes after the owner and before the next name. The next name of the last record of a zone is the zone's apex,
-- which comes before all others: then each name after the owner is denied.
abbrev pub Denies : List (List ℕ) → List (List ℕ) → List (List ℕ) → Type 0
Denies owner next name = (labels_cmp owner name ≡ Less) × ((labels_cmp name next ≡ Less) ⊎ (labels_cmp owner next ≢ Less))
