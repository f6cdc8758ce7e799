-- The code of OPT is read as OPT, and no other is.
use Rattle.std.proofs.Common.{◌≡◌, ◌≢◌, ℕ, ◌==◌, Bool, true, false, cond, true≢false, Option, Some, List, [], ◌∷◌, find, unwrap_or, eqb-true, refl, sym, ap, ◌∙◌}
use Rattle.dnw_base.specs.declared.record_type.RecordType.{RecordType}
use Rattle.dnw_base.specs.declared.record_type.RecordType.TheVariants.{OPT, Unknown}
use Rattle.dnw_base.specs.RecordTypes.{named_types, type_code, type_of_code}
use Rattle.dnw_message_read.specs.Edns.{is_opt}

not_opt : (record_type : RecordType) (code : ℕ) → type_code record_type ≡ code → code ≢ 41 → is_opt record_type ≡ false
not_opt OPT code is other = absurd (other (sym is))
not_opt record_type code is other = refl

first_not_opt : (t : Bool) (record_type : RecordType) (found : Option RecordType) (code : ℕ) → (type_code record_type == code) ≡ t → code ≢ 41
    → is_opt (unwrap_or found (Unknown code)) ≡ false → is_opt (unwrap_or (cond t (Some record_type) found) (Unknown code)) ≡ false
first_not_opt true record_type found code is other h = not_opt record_type code (eqb-true (type_code record_type) code is) other
first_not_opt false record_type found code is other h = h

none_is_opt : (kinds : List RecordType) (code : ℕ) → code ≢ 41 → is_opt (unwrap_or (find (λ kind. type_code kind == code) kinds) (Unknown code)) ≡ false
none_is_opt [] code other = refl
none_is_opt (kind ∷ kinds) code other = first_not_opt (type_code kind == code) kind _ code refl other (none_is_opt kinds code other)

is_opt_lem : (t : Bool) (code : ℕ) → (code == 41) ≡ t → is_opt (type_of_code code) ≡ t
unfolding type_of_code
is_opt_lem true code is = rw (eqb-true code 41 is) refl
is_opt_lem false code is = none_is_opt named_types code (λ same. true≢false (sym (ap (λ c. c == 41) same) ∙ is))

pub opt_code : (code : ℕ) → is_opt (type_of_code code) ≡ (code == 41)
opt_code code = is_opt_lem (code == 41) code refl
