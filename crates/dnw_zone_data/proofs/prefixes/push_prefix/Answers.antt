use Rattle.std.proofs.Common.{◌≡◌, inl, inr, sym, ◌∙◌}
use Rattle.dnw_zone_values.specs.declared.error.FieldTextError.TheVariants.{Prefix, Memory}
use Rattle.dnw_zone_data.proofs.prefixes.push_prefix.Goals as goal

pub returns-in-Err-Prefix : goal.returns-in-Err-Prefix
returns-in-Err-Prefix c = λ own is. elim c.in-Err-Prefix.ensures.0 [
  | inl none ↦ none.1 own is
  | inr memory ↦ let no : Prefix ≡ Memory = sym c.in-Err-Prefix.field-0-is ∙ memory.0 in cc
]
