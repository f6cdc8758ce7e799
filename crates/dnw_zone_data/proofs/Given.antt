-- Octets that are left out, if they may be.
use Rattle.std.proofs.Common.{◌≡◌, ◌+◌, ℕ, Bool, true, false, List, [], ◌∷◌, ◌++◌, length, length-append, refl, sym, ap, ◌∙◌, subst, arith}
use Rattle.dnw_data.specs.FieldWires.{field_wire}
use Rattle.dnw_data.specs.Values.{FieldValue, octets}
use Rattle.dnw_data.specs.declared.kind.Shown.{Shown}
use Rattle.dnw_data.specs.declared.kind.Shown.TheVariants.{Hex, Base64}
use Rattle.dnw_zone_data.specs.declared.number_form.NumberForm.{NumberForm}
use Rattle.dnw_zone_data.specs.Appending.{AppendsOne}
use Rattle.dnw_zone_data.specs.NumberForms.{is_given, may_be_left_out}
use Rattle.dnw_zone_data.specs.Parsing.{SpellsOctets}
use Rattle.dnw_zone_data.proofs.OneText.{one_base64, one_hex}

one_spelling : (shown : Shown) (text a b : List ℕ) → SpellsOctets shown text a → SpellsOctets shown text b → a ≡ b
one_spelling Hex text a b x y = one_hex text a b x y
one_spelling Base64 text a b x y = one_base64 text a b x y
one_spelling shown text a b x y = absurd x

-- all words write octets, or such octets that may be there
abbrev pub AreSpelled : Shown → List ℕ → FieldValue → Type 0
AreSpelled shown text value = (own : List ℕ) × SpellsOctets shown text own × (value ≡ octets own)

abbrev pub AreGiven : NumberForm → Shown → List ℕ → FieldValue → Type 0
AreGiven way shown text value = (own : List ℕ) × (SpellsOctets shown text own × (is_given way own ≡ true)) × (value ≡ octets own)

more : (value : FieldValue) (own old new : List ℕ) → value ≡ octets own → new ≡ old ++ field_wire value → length new ≡ length old + length own
more value own old new e f = ap length (f ∙ ap (λ v. old ++ field_wire v) e) ∙ length-append old own

may_given : (way : NumberForm) (own : List ℕ) → true ≡ may_be_left_out way → is_given way own ≡ true
may_given way [] may = sym may
may_given way (o ∷ own) may = refl

pub with_none : (way : NumberForm) (shown : Shown) (text old new : List ℕ) (may : Bool) → AppendsOne (AreSpelled shown text) old new true → length new ≡ length old
    → may ≡ may_be_left_out way → AppendsOne (AreGiven way shown text) old new may
with_none way shown text old new true (value, (own, is, e), f) same may = (value, (own, (is, may_given way own may), e), f)
with_none way shown text old new false (value, (own, is, e), f) same may = λ other are.
    let one : are.0 ≡ own = one_spelling shown text are.0 own are.1.0 is in
    none own (omega (arith, same, more value own old new e f)) (subst (λ (xs : List ℕ). is_given way xs ≡ true) one are.1.1)
  where
    none : (xs : List ℕ) → length xs ≡ 0 → is_given way xs ≡ true → ⊥
    none [] size given = let no : false ≡ true = may ∙ given in cc
    none (x ∷ xs) size given = omega (arith, size)
