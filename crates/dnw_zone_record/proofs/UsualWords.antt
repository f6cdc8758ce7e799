-- The word of the class that most records have.
use Rattle.std.proofs.Common.{◌≡◌, ℕ, List, [], ◌∷◌, codes, length, get_or, refl, ap₂, arith}
use Rattle.dnw_base.specs.DnsClasses.{class_of_text}
use Rattle.dnw_base.specs.declared.dns_class.DNSClass.TheVariants.{IN}
use Rattle.dnw_zone_data.proofs.Plain.{plain_utf8}
use Rattle.dnw_zone_record.specs.RecordLines.{IsClassWord}

two : (word : List ℕ) → length word ≡ 2 → get_or word 0 0 ≡ 73 → get_or word 1 0 ≡ 78 → word ≡ codes "IN"
two [] size first second = absurd (omega (arith, size))
two (c ∷ []) size first second = absurd (omega (arith, size))
two (c ∷ d ∷ []) size first second = ap₂ (λ x y. x ∷ y ∷ []) first second
two (c ∷ d ∷ e ∷ word) size first second = absurd (omega (arith, size))

-- a word of the two letters of `IN`
pub internet : (word : List ℕ) → length word ≡ 2 → get_or word 0 0 ≡ 73 → get_or word 1 0 ≡ 78 → IsClassWord word IN
unfolding class_of_text
internet word size first second = rw (two word size first second) (plain_utf8 (codes "IN") refl, refl, refl)
