-- Numbers of bitmaps, one after another.
use Rattle.std.proofs.Common.{◌≡◌, ◌≢◌, ◌<◌, ℕ, Bool, true, List, [], ◌∷◌, ◌++◌, length, refl, sym, ap, ◌∙◌, subst, arith, IfOk}
use Rattle.std.specs.Prelude.{Result, None, Some}
use Rattle.dnw_data.specs.Values.{octets}
use Rattle.dnw_data.specs.declared.kind.Shown.{Shown}
use Rattle.dnw_data.specs.declared.kind.Shown.TheVariants.{Ports, OldTypes}
use Rattle.dnw_zone_data.specs.Appending.{AppendsOne}
use Rattle.dnw_zone_data.specs.Bitmaps.{with_number, with_numbers, AreBitWords, IsBitWord}
use Rattle.dnw_zone_data.specs.Inside.BitWords.{LeadToBits}
use Rattle.dnw_zone_data.specs.declared.number_form.NumberForm.{NumberForm}
use Rattle.dnw_zone_data.specs.NumberForms.{is_given}
use Rattle.dnw_zone_data.specs.Parsing.{AllSpell, SpellsOctets}
use Rattle.dnw_zone_data.specs.Words.{after_spaces, word, after_word, without_spaces}
use Rattle.dnw_zone_data.proofs.TypeSteps.{word_some}

-- ---- words

pub bits_more : (shown : Shown) (text : List ℕ) (done left : List ℕ) (n : ℕ) → LeadToBits shown text done left → left ≢ [] → IsBitWord shown (word left) n
    → LeadToBits shown text (done ++ n ∷ []) (after_spaces (after_word left))
bits_more shown text [] left n h some is = (
  subst (λ (xs : List ℕ). xs ≢ []) h some,
  subst (λ (xs : List ℕ). IsBitWord shown (word xs) n) h is,
  ap (λ (xs : List ℕ). after_spaces (after_word xs)) h,
)
bits_more shown text (d ∷ done) left n h some is = (h.0, h.1, bits_more shown (after_word (after_spaces text)) done left n h.2 some is)

pub bits_end : (shown : Shown) (text : List ℕ) (done left : List ℕ) → LeadToBits shown text done left → left ≡ [] → AreBitWords shown text done
bits_end shown text [] left h none = sym h ∙ none
bits_end shown text (d ∷ done) left h none = (h.0, h.1, bits_end shown (after_word (after_spaces text)) done left h.2 none)

pub bits_stop : (shown : Shown) (text : List ℕ) (done ns left : List ℕ) → LeadToBits shown text done left → left ≢ []
    → ((n : ℕ) → ¬ (IsBitWord shown (word left) n)) → AreBitWords shown text ns → ⊥
bits_stop shown text [] [] left h some none are = some (h ∙ are)
bits_stop shown text [] (n ∷ ns) left h some none are = none n (subst (λ (xs : List ℕ). IsBitWord shown (word xs) n) (sym h) are.1)
bits_stop shown text (d ∷ done) [] left h some none are = h.0 are
bits_stop shown text (d ∷ done) (n ∷ ns) left h some none are = bits_stop shown (after_word (after_spaces text)) done ns left h.2 some none are.2

-- one bit more
pub with_last : (ns own : List ℕ) (n : ℕ) → with_numbers (ns ++ n ∷ []) own ≡ with_number n (with_numbers ns own)
with_last [] own n = refl
with_last (m ∷ ns) own n = with_last ns (with_number m own) n

-- octets that are no bitmap are spelled by all words as one
pub all_spell : {E : Type 0} (way : NumberForm) (shown : Shown) (left old new : List ℕ) (read : Result Bool E) → (shown ≡ Ports → ⊥) → (shown ≡ OldTypes → ⊥)
    → IfOk read (AppendsOne (λ value. (own : List ℕ) × (SpellsOctets shown (without_spaces left) own × (is_given way own ≡ true)) × (value ≡ octets own)) old new)
    → IfOk read (AppendsOne (λ value. (own : List ℕ) × AllSpell way shown left own × (value ≡ octets own)) old new)
all_spell way Ports left old new read a b h = absurd (a refl)
all_spell way OldTypes left old new read a b h = absurd (b refl)
all_spell way shown left old new read a b h = h

-- no number is an empty word
pub bit_some : (shown : Shown) (w : List ℕ) (n : ℕ) → IsBitWord shown w n → 0 < length w
bit_some Ports [] n is = let no : None ≡ Some n = is.0 in cc
bit_some OldTypes [] n is = word_some [] is.0 is.1
bit_some shown [] n is = absurd is
bit_some shown (c ∷ w) n is = omega arith
