-- Codes of types and classes come back.
use Rattle.std.proofs.Common.{◌≡◌, ℕ, ◌==◌, List, [], ◌∷◌, refl, inl, inr}
use Rattle.std.specs.Prelude.{find, unwrap_or}
use Rattle.std.proofs.lemmas.Bool.{cases_Bool, eqb-true}
use Rattle.dnw_base.specs.declared.dns_class.DNSClass.{DNSClass}
use Rattle.dnw_base.specs.declared.dns_class.DNSClass.TheVariants.{Unknown}
use Rattle.dnw_base.specs.declared.record_type.RecordType.{RecordType}
use Rattle.dnw_base.specs.declared.record_type.RecordType.TheVariants as rr
use Rattle.dnw_base.specs.DnsClasses.{class_code, class_of_code, named_classes}
use Rattle.dnw_base.specs.RecordTypes.{named_types, type_code, type_of_code}

-- what is found by its code has the code, and so has what is taken if nothing is found
find_code : {A : Type 0} (code : A → ℕ) (n : ℕ) (xs : List A) (other : A) → code other ≡ n → code (unwrap_or (find (λ x. code x == n) xs) other) ≡ n
find_code code n [] other is = is
find_code code n (x ∷ xs) other is = elim (cases_Bool (code x == n)) [
  | inl here ↦ rw here (eqb-true (code x) n here)
  | inr there ↦ rw there (find_code code n xs other is)
]

pub code_back : (code : ℕ) → type_code (type_of_code code) ≡ code
unfolding type_of_code
code_back code = find_code (λ (record_type : RecordType). type_code record_type) code named_types (rr.Unknown code) refl

pub class_back : (code : ℕ) → class_code (class_of_code code) ≡ code
unfolding class_of_code
class_back code = find_code (λ (class : DNSClass). class_code class) code named_classes (Unknown code) refl
