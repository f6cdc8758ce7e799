-- All words of a text are one field.
use Rattle.std.proofs.Common.{◌≡◌, ◌≢◌, ◌≤◌, ◌<◌, ℕ, true, List, [], ◌∷◌, ◌++◌, length, refl, sym, ap, ◌∙◌, subst, arith, append_assoc, length-append}
use Rattle.dnw_zone_data.proofs.Strings.{last}
use Rattle.std.proofs.lemmas.Option.{same_Some}
use Rattle.dnw_base.specs.Limits.{max_data}
use Rattle.std.specs.Prelude.{flat_map}
use Rattle.dnw_base.specs.Names.{label_wire}
use Rattle.dnw_data.specs.declared.kind.ListKind.TheVariants as lists
use Rattle.dnw_data.specs.FieldWires.{field_wire}
use Rattle.dnw_data.specs.Values.{FieldValue, counted, texts, items}
use Rattle.dnw_zone_data.specs.Words.{after_spaces, word, after_word}
use Rattle.dnw_zone_data.specs.StringLists.{strings_wire, AreStringWords, AreTexts, AreTooMany, BeginWithStrings}
use Rattle.dnw_zone_values.specs.Strings.{IsStringText}
use Rattle.dnw_zone_data.specs.Appending.{AppendsOne}
use Rattle.dnw_zone_data.specs.Inside.StringWords.{LeadTo}

lead_more : (text : List ℕ) (done : List (List ℕ)) (left string : List ℕ) → LeadTo text done left → left ≢ [] → IsStringText (word left) string
    → LeadTo text (done ++ string ∷ []) (after_spaces (after_word left))
lead_more text [] left string h some is = (
  subst (λ (xs : List ℕ). xs ≢ []) h some,
  subst (λ (xs : List ℕ). IsStringText (word xs) string) h is,
  ap (λ (xs : List ℕ). after_spaces (after_word xs)) h,
)
lead_more text (d ∷ done) left string h some is = (h.0, h.1, lead_more (after_word (after_spaces text)) done left string h.2 some is)

lead_end : (text : List ℕ) (done : List (List ℕ)) (left : List ℕ) → LeadTo text done left → left ≡ [] → AreStringWords text done
lead_end text [] left h none = sym h ∙ none
lead_end text (d ∷ done) left h none = (h.0, h.1, lead_end (after_word (after_spaces text)) done left h.2 none)

lead_stop : (text : List ℕ) (done strings : List (List ℕ)) (left : List ℕ) → LeadTo text done left → left ≢ []
    → ((own : List ℕ) → ¬ (IsStringText (word left) own)) → AreStringWords text strings → ⊥
lead_stop text [] [] left h some none are = some (h ∙ are)
lead_stop text [] (s ∷ strings) left h some none are = none s (subst (λ (xs : List ℕ). IsStringText (word xs) s) (sym h) are.1)
lead_stop text (d ∷ done) [] left h some none are = h.0 are
lead_stop text (d ∷ done) (s ∷ strings) left h some none are = lead_stop (after_word (after_spaces text)) done strings left h.2 some none are.2

pub no_texts : (text : List ℕ) (done : List (List ℕ)) (left : List ℕ) → LeadTo text done left → left ≢ []
    → ((own : List ℕ) → ¬ (IsStringText (word left) own)) → (value : FieldValue) → ¬ (AreTexts text value)
no_texts text done left h some none value are = lead_stop text done (are.0 ∷ are.1) left h some none are.2

pub none_are : (text : List ℕ) → after_spaces text ≡ [] → (value : FieldValue) → ¬ (AreTexts text value)
none_are text none value are = are.2.0 none

pub all_texts : (text old new left : List ℕ) (done : List (List ℕ)) → LeadTo text done left → left ≡ [] → after_spaces text ≢ []
    → new ≡ old ++ flat_map label_wire done → length (strings_wire done) ≤ max_data → AppendsOne (AreTexts text) old new true
all_texts text old new left [] h none some e few = absurd (some (sym h ∙ none))
all_texts text old new left (d ∷ done) h none some e few =
    let own = flat_map label_wire (d ∷ done) in
    (texts (items lists.Texts own), (d, done, lead_end text (d ∷ done) left h none, few, refl), e)

-- ---- too many

one_string : (w a b : List ℕ) → IsStringText w a → IsStringText w b → a ≡ b
one_string w a b x y = same_Some a b (sym x.0 ∙ y.0)

-- strings that a text begins with are among those up to a word that is none
pub begin_within : (text : List ℕ) (done strings : List (List ℕ)) (left : List ℕ) → LeadTo text done left → (left ≢ [] → (own : List ℕ) → ¬ (IsStringText (word left) own))
    → BeginWithStrings text strings → length (strings_wire strings) ≤ length (strings_wire done)
begin_within text done [] left h none begin = omega arith
begin_within text [] (s ∷ strings) left h none begin =
    absurd (none (subst (λ (xs : List ℕ). xs ≢ []) (sym h) begin.0) s (subst (λ (xs : List ℕ). IsStringText (word xs) s) (sym h) begin.1))
begin_within text (d ∷ done) (s ∷ strings) left h none begin =
    let same = one_string (word (after_spaces text)) d s h.1 begin.1 in
    let rest = begin_within (after_word (after_spaces text)) done strings left h.2 none begin.2 in
    omega (arith, rest, ap length same, length-append (label_wire s) (strings_wire strings), length-append (label_wire d) (strings_wire done))

pub no_many : (text : List ℕ) (done : List (List ℕ)) (left : List ℕ) → LeadTo text done left → (left ≢ [] → (own : List ℕ) → ¬ (IsStringText (word left) own))
    → length (strings_wire done) ≤ max_data → ¬ (AreTooMany text)
no_many text done left h none few many = omega (arith, few, many.2, begin_within text done many.0 left h none many.1)

lead_whole : (text : List ℕ) (strings : List (List ℕ)) → AreStringWords text strings → LeadTo text strings []
lead_whole text [] are = sym are
lead_whole text (s ∷ strings) are = (are.0, are.1, lead_whole (after_word (after_spaces text)) strings are.2)

pub not_both : (text : List ℕ) (value : FieldValue) → AreTexts text value → ¬ (AreTooMany text)
not_both text value are = no_many text (are.0 ∷ are.1) [] (lead_whole text (are.0 ∷ are.1) are.2) (λ some. absurd (some refl)) are.3

begins : (text : List ℕ) (done : List (List ℕ)) (left : List ℕ) → LeadTo text done left → BeginWithStrings text done
begins text [] left h = tt
begins text (d ∷ done) left h = (h.0, h.1, begins (after_word (after_spaces text)) done left h.2)

pub too_many : (text : List ℕ) (done : List (List ℕ)) (left : List ℕ) → LeadTo text done left → max_data < length (strings_wire done) → AreTooMany text
too_many text done left h many = (done, begins text done left h, many)

-- one string more
more_strings : (old so_far new own : List ℕ) (done : List (List ℕ)) → so_far ≡ old ++ flat_map label_wire done → new ≡ so_far ++ label_wire own
    → new ≡ old ++ flat_map label_wire (done ++ own ∷ [])
more_strings old so_far new own done before e =
    e ∙ ap (λ (xs : List ℕ). xs ++ label_wire own) before ∙ append_assoc old (flat_map label_wire done) (label_wire own)
    ∙ ap (λ (xs : List ℕ). old ++ xs) (sym (last label_wire done own))

-- what was read and written, after one string more
pub one_more : (text : List ℕ) (done : List (List ℕ)) (left w own old so_far new : List ℕ) (value : FieldValue) → LeadTo text done left → left ≢ []
    → w ≡ word left → IsStringText w own → so_far ≡ old ++ flat_map label_wire done → value ≡ counted own → new ≡ so_far ++ field_wire value
    → LeadTo text (done ++ own ∷ []) (after_spaces (after_word left)) × (new ≡ old ++ flat_map label_wire (done ++ own ∷ []))
one_more text done left w own old so_far new value lead some at string before same items = (
  lead_more text done left own lead some (subst (λ (xs : List ℕ). IsStringText xs own) at string),
  more_strings old so_far new own done before (items ∙ ap (λ (v : FieldValue). so_far ++ field_wire v) same),
)
