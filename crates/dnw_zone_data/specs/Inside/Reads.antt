-- What a part of a text gives.
use Rattle.std.specs.Prelude.{◌≡◌, ◌≤◌, ℕ, Bool, true, false, List, ◌++◌, ⊤}
use Rattle.dnw_data.specs.declared.kind.Kind.{Kind}
use Rattle.dnw_data.specs.declared.kind.Kind.TheVariants.{U8, U16, U32}
use Rattle.dnw_data.specs.Values.{FieldValue, u8, u16, u32}
use Rattle.dnw_data.specs.FieldWires.{field_wire}
use Rattle.dnw_zone_values.specs.Numbers.{max_u8, max_u16, max_u32}
use Rattle.dnw_zone_data.specs.declared.parsing.Refused.{Refused}
use Rattle.dnw_zone_data.specs.declared.parsing.Refused.TheVariants.{Text, Memory}

-- The octets of a field of these are appended, and this is after the field.
abbrev pub AppendsRest : (FieldValue → List ℕ → Type 0) → List ℕ → List ℕ → List ℕ → Type 0
AppendsRest Is old new rest = (value : FieldValue) × Is value rest × (new ≡ old ++ field_wire value)

-- No such field is there, if the text is refused.
abbrev pub LacksField : (FieldValue → List ℕ → Type 0) → Refused → Type 0
LacksField Is Text = (value : FieldValue) (rest : List ℕ) → ¬ (Is value rest)
LacksField Is Memory = ⊤

-- numbers of one, two and four octets
abbrev pub is_number : Kind → Bool
is_number U8 = true
is_number U16 = true
is_number U32 = true
is_number kind = false

-- The field of a kind that a number makes.
abbrev pub HasNumber : Kind → ℕ → FieldValue → Type 0
HasNumber U8 n value = (n ≤ max_u8) × (value ≡ u8 n)
HasNumber U16 n value = (n ≤ max_u16) × (value ≡ u16 n)
HasNumber U32 n value = (n ≤ max_u32) × (value ≡ u32 n)
HasNumber kind n value = ⊥
