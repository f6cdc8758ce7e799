-- Classes and their codes round-trip.
use Rattle.std.proofs.Common.{◌≡◌, ℕ, ◌==◌, ◌<◌, max, inl, inr, refl, sym, ap, ◌∙◌, arith}
use Rattle.std.specs.Prelude.{◌⊎◌}
use Rattle.dnw_base.specs.declared.dns_class.DNSClass.{DNSClass}
use Rattle.dnw_base.specs.declared.dns_class.DNSClass.TheVariants.{OPT, Unknown}
use Rattle.dnw_base.specs.DnsClasses.{class_code, class_of_code, class_rank, named_classes}
use Rattle.dnw_base.specs.Limits.{min_payload}
use Rattle.dns_names_wire.specs.CodeLaws.{ClassCodesComeBack, NamedClassesComeBack, SizesStayUnknown, UnknownClassesComeBack}
use Rattle.dnw_data.proofs.Codes.{class_back}
use Rattle.dns_names_wire.proofs.Found.{found}

pub codes : ClassCodesComeBack
codes = class_back

pub named : NamedClassesComeBack
unfolding class_of_code
named (OPT size) is = cc
named (Unknown code) is = cc
named class is = refl

-- the class has a name, and so a small code
abbrev HasName : DNSClass → Type 0
HasName class = (class_rank class ≡ 0) × (class_code class < min_payload)

-- a code gives a class with a name, or `Unknown`
gives : (code : ℕ) → HasName (class_of_code code) ⊎ (class_of_code code ≡ Unknown code)
unfolding class_of_code
gives code =
    found (λ class. HasName class ⊎ (class ≡ Unknown code)) (λ class. class_code class == code) named_classes (Unknown code)
    (λ _. inl (refl, omega arith), (λ _. inl (refl, omega arith), (λ _. inl (refl, omega arith), (λ _. inl (refl, omega arith), (λ _. inl (refl, omega arith), tt))))) (inr refl)

is_unknown : (code : ℕ) → HasName (class_of_code code) ⊎ (class_of_code code ≡ Unknown code) → (HasName (class_of_code code) → ⊥)
    → class_of_code code ≡ Unknown code
is_unknown code (inl has) not = absurd (not has)
is_unknown code (inr is) not = is

pub unknown : UnknownClassesComeBack
unknown code = (
  λ back kind is rank. omega (arith, ap class_rank (sym (named kind rank) ∙ (ap class_of_code is ∙ back)), rank),
  λ all. is_unknown code (gives code) (λ named. all (class_of_code code) (codes code) named.0),
)

pub sizes : SizesStayUnknown
sizes size = is_unknown (max size min_payload) (gives (max size min_payload)) (λ named. omega (arith, named.1, codes (max size min_payload)))
