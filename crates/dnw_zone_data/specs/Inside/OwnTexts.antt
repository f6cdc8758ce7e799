-- Texts in the form of their type.
use Rattle.std.specs.Prelude.{◌≡◌, ℕ, ◌-◌, ◌⊎◌, true, false, List, length, Option}
use Rattle.dnw_base.specs.Names.{NameValue}
use Rattle.dnw_data.specs.declared.kind.Kind.{Kind}
use Rattle.dnw_zone_data.specs.declared.error.DataTextError.{DataTextError}
use Rattle.dnw_zone_data.specs.declared.error.DataTextError.TheVariants.{Memory}
use Rattle.dnw_zone_data.specs.declared.error.Wanted.TheVariants.{Generic}
use Rattle.dnw_zone_data.specs.declared.number_form.NumberForm.{NumberForm}
use Rattle.dnw_zone_data.specs.DataTexts.{has_own_form}
use Rattle.dnw_zone_data.specs.Faults.{fault}
use Rattle.dnw_zone_data.specs.Parsing.{FailsFields}
use Rattle.dnw_zone_data.specs.Words.{after_spaces}

-- the error at a text whose type has no form of its own, at the end of a line of this length
abbrev pub generic_wanted : ℕ → List ℕ → DataTextError
generic_wanted len text = fault 0 (len - length (after_spaces text)) Generic

-- The type has no form of its own, or the text goes wrong at a field.
abbrev pub FailsOwnText : Option NameValue → List NumberForm → List Kind → ℕ → List ℕ → DataTextError → Type 0
FailsOwnText origin ways kinds len text e =
    ((has_own_form kinds ≡ false) × (e ≡ generic_wanted len text))
    ⊎ ((has_own_form kinds ≡ true) × ((e ≡ Memory) ⊎ FailsFields origin (length kinds) len ways kinds text e))
