-- A text that is data of a type has no fault.
use Rattle.std.proofs.Common.{◌≡◌, ◌⊎◌, ℕ, true, false, List, [], ◌∷◌, sym, ◌∙◌, subst, inl, inr}
use Rattle.std.specs.Prelude.{Option}
use Rattle.dnw_base.specs.Names.{NameValue}
use Rattle.dnw_data.specs.declared.kind.Kind.{Kind}
use Rattle.dnw_data.specs.Values.{FieldValue}
use Rattle.dnw_zone_data.specs.declared.extent.Extent.{Extent}
use Rattle.dnw_zone_data.specs.declared.extent.Extent.TheVariants.{One, Three, All}
use Rattle.dnw_zone_data.specs.declared.number_form.NumberForm.{NumberForm}
use Rattle.dnw_zone_data.specs.NumberForms.{first_form, other_forms}
use Rattle.dnw_zone_data.specs.Words.{after_spaces, after_word}
use Rattle.dnw_zone_data.specs.declared.error.DataTextError.{DataTextError}
use Rattle.dnw_zone_data.specs.declared.error.DataTextError.TheVariants.{Memory}
use Rattle.dnw_zone_data.specs.DataTexts.{ArePlain, FailsGeneric, text_kinds}
use Rattle.dnw_zone_data.specs.Generic.{AreHexWords, IsSized, FailsSized}
use Rattle.dnw_zone_data.specs.Parsing.{ReadsBy, AreFieldTexts, FailsFields, extent_of}
use Rattle.dnw_zone_data.specs.DataTextLaws.{GenericIsParsed, TextsAreParsed}
use Rattle.dnw_zone_data.proofs.GenericText.{one_sized}

one_rest : (extent : Extent) (origin : Option NameValue) (way : NumberForm) (kind : Kind) (left r s : List ℕ) (v w : FieldValue) → ReadsBy extent origin way kind left v r
    → ReadsBy extent origin way kind left w s → r ≡ s
one_rest One origin way kind left r s v w h k = h.1 ∙ sym k.1
one_rest Three origin way kind left r s v w h k = h.1 ∙ sym k.1
one_rest All origin way kind left r s v w h k = h.1 ∙ sym k.1

no_fault : (origin : Option NameValue) (count len : ℕ) (ways : List NumberForm) (kinds : List Kind) (left : List ℕ) (values : List FieldValue) (e : DataTextError)
    → AreFieldTexts origin ways kinds left values → FailsFields origin count len ways kinds left e → ⊥
no_fault origin count len ways [] left [] e are fails = fails.0 are
no_fault origin count len ways [] left (v ∷ values) e are fails = are
no_fault origin count len ways (kind ∷ kinds) left [] e are fails = are
no_fault origin count len ways (kind ∷ kinds) left (v ∷ values) e (rest, reads, are) (inl none) = none.0 v rest reads
no_fault origin count len ways (kind ∷ kinds) left (v ∷ values) e (rest, reads, are) (inr (w, other, also, fails)) =
    let same = one_rest (extent_of kind) origin (first_form ways) kind (after_spaces left) other rest w v also reads in
    no_fault origin count len (other_forms ways) kinds rest values e are (subst (λ (xs : List ℕ). FailsFields origin count len (other_forms ways) kinds xs e) same fails)

sized_fails : (len : ℕ) (left own : List ℕ) (e : DataTextError) → IsSized left own → FailsSized len left e → e ≡ Memory
sized_fails len left own e (n, size, are) (inl none) = absurd (none.0 n size)
sized_fails len left own e (n, size, are) (inr (inl (m, also, none, is))) =
    let same : n ≡ m = sym size.1 ∙ also.1 in
    absurd (none own (subst (λ (k : ℕ). AreHexWords k (after_spaces (after_word (after_spaces left))) own) same are))
sized_fails len left own e (n, size, are) (inr (inr memory)) = memory.3

generic_fails : (fields : List ℕ → List Kind) (len : ℕ) (left own : List ℕ) (e : DataTextError) → IsSized left own → FailsGeneric fields len left e
    → (e ≡ Memory) ⊎ (¬ (ArePlain (fields own) own))
generic_fails fields len left own e sized (inl fails) = inl (sized_fails len left own e sized fails)
generic_fails fields len left own e sized (inr (inl memory)) = inl memory
generic_fails fields len left own e sized (inr (inr (other, also, none, is))) =
    inr (λ plain. none (subst (λ (xs : List ℕ). ArePlain (fields xs) xs) (one_sized left own other sized also) plain))

pub generic_parsed : GenericIsParsed
generic_parsed origin ways fields len text own e (marked, sized) (inl fails) = generic_fails fields len (after_word (after_spaces text)) own e sized fails.1
generic_parsed origin ways fields len text own e (marked, sized) (inr (inl fails)) = absurd (fails.0 marked)
generic_parsed origin ways fields len text own e (marked, sized) (inr (inr fails)) = absurd (fails.0 marked)

pub parsed : TextsAreParsed
parsed origin ways fields len text own e (inl (generic, plain)) fails = elim (generic_parsed origin ways fields len text own e generic fails) [
  | inl memory ↦ memory
  | inr none ↦ absurd (none plain)
]
parsed origin ways fields len text own e (inr (other, form, values, are, is)) (inl fails) = absurd (other fails.0)
parsed origin ways fields len text own e (inr (other, form, values, are, is)) (inr (inl fails)) = let no : true ≡ false = sym form ∙ fails.1 in absurd cc
parsed origin ways fields len text own e (inr (other, form, values, are, is)) (inr (inr (marked, has, inl memory))) = memory
parsed origin ways fields len text own e (inr (other, form, values, are, is)) (inr (inr (marked, has, inr fails))) = absurd (no_fault origin _ _ ways (text_kinds fields text) text values e are fails)
