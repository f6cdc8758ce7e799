-- Appending what a template makes, or failing to.
use Rattle.std.specs.Prelude.{◌≡◌, ◌≤◌, ◌⊎◌, ⊤, ℕ, List, ◌++◌, Option, Some, None}
use Rattle.dnw_zone_file.specs.declared.error.ZoneError.{ZoneError}
use Rattle.dnw_zone_file.specs.declared.error.ZoneError.TheVariants.{Wrong, Memory as NoMemory}
use Rattle.dnw_zone_file.specs.declared.error.ZoneRule.TheVariants.{BadTemplate}
use Rattle.dnw_zone_file.specs.declared.generate.Range.{Range}
use Rattle.dnw_zone_file.specs.declared.template.TemplateError.{TemplateError}
use Rattle.dnw_zone_file.specs.declared.template.TemplateError.TheVariants.{Modifier, Memory}

-- The text is there, and is appended.
abbrev pub IsMade : Option (List ℕ) → List ℕ → List ℕ → Type 0
IsMade None old new = ⊥
IsMade (Some text) old new = new ≡ old ++ text

-- No text is there, or memory ran out.
abbrev pub FailsMade : Option (List ℕ) → TemplateError → Type 0
FailsMade text Modifier = text ≡ None
FailsMade text Memory = ⊤

-- why a template at an offset makes nothing
abbrev pub template_error : ℕ → TemplateError → ZoneError
template_error offset Modifier = Wrong offset BadTemplate
template_error offset Memory = NoMemory

-- It fails so, or memory ran out.
abbrev pub FailsOrMemory : (ZoneError → Type 0) → ZoneError → Type 0
FailsOrMemory Fails error = Fails error ⊎ (error ≡ NoMemory)

-- The range has a first number, and a step.
abbrev pub IsRange : Range → Type 0
IsRange range = (range.first ≤ range.last) × (1 ≤ range.step)
