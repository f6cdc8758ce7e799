-- What a call that prints or parses a part appends.
use Rattle.std.specs.Prelude.{◌≡◌, ℕ, Bool, true, false, List, ◌++◌}
use Rattle.dnw_data.specs.Values.{FieldValue}
use Rattle.dnw_zone_values.specs.Inside.Steps.{AppendsSpaced}
use Rattle.dnw_data.specs.FieldWires.{field_wire}

-- A text of these is appended, or there is none and nothing is appended.
abbrev pub Appended : (List ℕ → Type 0) → List ℕ → List ℕ → Bool → Type 0
Appended Is old new true = (text : List ℕ) × Is text × (new ≡ old ++ text)
Appended Is old new false = ((text : List ℕ) → ¬ (Is text)) × (new ≡ old)

-- A text of these is appended, or there is none and a part of one may be appended.
abbrev pub AppendedInPart : (List ℕ → Type 0) → List ℕ → List ℕ → Bool → Type 0
AppendedInPart Is old new true = (text : List ℕ) × Is text × (new ≡ old ++ text)
AppendedInPart Is old new false = ((text : List ℕ) → ¬ (Is text)) × AppendsSpaced old new

-- The octets of a field of these are appended, or there is none.
abbrev pub AppendsOne : (FieldValue → Type 0) → List ℕ → List ℕ → Bool → Type 0
AppendsOne Is old new true = (value : FieldValue) × Is value × (new ≡ old ++ field_wire value)
AppendsOne Is old new false = (value : FieldValue) → ¬ (Is value)
