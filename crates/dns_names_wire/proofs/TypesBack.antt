-- Types and their codes round-trip.
use Rattle.std.proofs.Common.{◌≡◌, Bool, true, false, refl, sym, ap, ◌∙◌}
use Rattle.dnw_base.specs.declared.record_type.RecordType.{RecordType}
use Rattle.dnw_base.specs.declared.record_type.RecordType.TheVariants.{Unknown}
use Rattle.dnw_base.specs.RecordTypes.{is_unknown, type_code, type_of_code}
use Rattle.dns_names_wire.specs.CodeLaws.{NamedTypesComeBack, TypeCodesComeBack, UnknownTypesComeBack}
use Rattle.dnw_data.proofs.Codes.{code_back}

pub codes : TypeCodesComeBack
codes = code_back

pub named : NamedTypesComeBack
unfolding type_of_code
named (Unknown code) is = cc
named kind is = refl

holds : (record_type : RecordType) → is_unknown record_type ≡ true → record_type ≡ Unknown (type_code record_type)
holds (Unknown code) is = refl
holds record_type is = cc

-- a type with the code of an `Unknown` that round-trips has no name
unnamed : (record_type : RecordType) (unknown : Bool) → is_unknown record_type ≡ unknown → type_of_code (type_code record_type) ≡ Unknown (type_code record_type)
    → is_unknown record_type ≡ true
unnamed record_type true is back = is
unnamed record_type false is back = ap is_unknown (sym (named record_type is) ∙ back)

pub unknown : UnknownTypesComeBack
unknown code = (
  λ back kind is. unnamed kind (is_unknown kind) refl (ap type_of_code is ∙ (back ∙ ap Unknown (sym is))),
  λ all. holds (type_of_code code) (all (type_of_code code) (codes code)) ∙ ap Unknown (codes code),
)
