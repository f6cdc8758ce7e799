-- Words, one after another, and how many a location has.
use Rattle.std.proofs.Common.{◌≡◌, ◌≢◌, ◌≤◌, ◌<◌, ◌+◌, ℕ, List, [], ◌∷◌, ◌++◌, length, refl, sym, ap, ◌∙◌, subst, arith, inl, inr}
use Rattle.std.proofs.lemmas.Bool.{cases_Bool}
use Rattle.dnw_data.specs.declared.kind.Shape.TheVariants as shapes
use Rattle.dnw_data.specs.Values.{FieldValue, shaped}
use Rattle.dnw_zone_values.specs.declared.location.Axis.{Axis}
use Rattle.dnw_zone_values.specs.declared.location.Axis.TheVariants.{Latitude, Longitude}
use Rattle.dnw_zone_values.specs.declared.location.Location.{Location}
use Rattle.dnw_zone_values.specs.Locations.{is_letter, location_wire, with_sizes, AreLocationWords, AreSizes, BeginWithAngle}
use Rattle.dnw_zone_values.proofs.OneLocation.{one_location as one_of_words}
use Rattle.dnw_zone_data.specs.Words.{after_spaces, word, after_word}
use Rattle.dnw_zone_data.specs.Locations.{AreLocation, AreWords}

-- ---- words

-- The first words of a text are these, and this is left.
abbrev pub LeadToWords : List ℕ → List (List ℕ) → List ℕ → Type 0
LeadToWords text [] left = left ≡ after_spaces text
LeadToWords text (w ∷ words) left = (after_spaces text ≢ []) × (word (after_spaces text) ≡ w) × LeadToWords (after_word (after_spaces text)) words left

pub words_more : (text : List ℕ) (done : List (List ℕ)) (left : List ℕ) → LeadToWords text done left → left ≢ []
    → LeadToWords text (done ++ word left ∷ []) (after_spaces (after_word left))
words_more text [] left h some = (subst (λ (xs : List ℕ). xs ≢ []) h some, ap word (sym h), ap (λ (xs : List ℕ). after_spaces (after_word xs)) h)
words_more text (d ∷ done) left h some = (h.0, h.1, words_more (after_word (after_spaces text)) done left h.2 some)

pub words_end : (text : List ℕ) (done : List (List ℕ)) (left : List ℕ) → LeadToWords text done left → left ≡ [] → AreWords text done
words_end text [] left h none = sym h ∙ none
words_end text (d ∷ done) left h none = (h.0, h.1, words_end (after_word (after_spaces text)) done left h.2 none)

-- there are more words than those so far
pub words_left : (text : List ℕ) (done words : List (List ℕ)) (left : List ℕ) → LeadToWords text done left → left ≢ [] → AreWords text words → length done < length words
words_left text [] [] left h some are = absurd (some (h ∙ are))
words_left text [] (w ∷ words) left h some are = omega arith
words_left text (d ∷ done) [] left h some are = absurd (h.0 are)
words_left text (d ∷ done) (w ∷ words) left h some are =
    let more = words_left (after_word (after_spaces text)) done words left h.2 some are.2 in omega (arith, more)

one_words : (text : List ℕ) (a b : List (List ℕ)) → AreWords text a → AreWords text b → a ≡ b
one_words text [] [] x y = refl
one_words text [] (w ∷ b) x y = absurd (y.0 x)
one_words text (v ∷ a) [] x y = absurd (x.0 y)
one_words text (v ∷ a) (w ∷ b) x y =
    ap (λ (own : List ℕ). own ∷ a) (sym x.1 ∙ y.1) ∙ ap (λ (rest : List (List ℕ)). w ∷ rest) (one_words (after_word (after_spaces text)) a b x.2 y.2)

-- ---- how many

few_of_angle : (axis : Axis) (words : List (List ℕ)) (n : ℕ) (rest : List (List ℕ)) → BeginWithAngle axis words n rest → length words ≤ length rest + 4
few_of_angle axis [] n rest is = absurd is
few_of_angle axis (d ∷ []) n rest is = absurd is
few_of_angle axis (d ∷ m ∷ []) n rest is = omega arith
few_of_angle axis (d ∷ m ∷ s ∷ []) n rest is = omega arith
few_of_angle axis (d ∷ m ∷ s ∷ t ∷ words) n rest is = elim (cases_Bool (is_letter axis m)) [
  | inl here ↦ let whole = rw here at is in omega (arith, ap length whole.1)
  | inr other ↦ elim (cases_Bool (is_letter axis s)) [
    | inl here ↦ let whole = rw (other, here) at is in omega (arith, ap length whole.1)
    | inr others ↦ let whole = rw (other, others) at is in omega (arith, ap length whole.1)
  ]
]

few_of_sizes : (words : List (List ℕ)) (l : Location) → AreSizes (with_sizes words) l → length words ≤ 4
few_of_sizes [] l are = omega arith
few_of_sizes (a ∷ []) l are = omega arith
few_of_sizes (a ∷ b ∷ []) l are = omega arith
few_of_sizes (a ∷ b ∷ c ∷ []) l are = omega arith
few_of_sizes (a ∷ b ∷ c ∷ d ∷ []) l are = omega arith
few_of_sizes (a ∷ b ∷ c ∷ d ∷ e ∷ words) l are = absurd are

pub few_words : (words : List (List ℕ)) (l : Location) → AreLocationWords words l → length words ≤ 12
few_words words l (others, sizes, first, second, are) =
    omega (arith, few_of_angle Latitude words l.latitude others first, few_of_angle Longitude others l.longitude sizes second, few_of_sizes sizes l are)

-- ---- locations

pub too_many : (left : List ℕ) (value : FieldValue) → ((words : List (List ℕ)) → AreWords left words → 12 < length words) → ¬ (AreLocation left value)
too_many left value many (words, l, are, is, e) = omega (arith, many words are, few_words words l is)

pub other_words : (left : List ℕ) (found : List (List ℕ)) (value : FieldValue) → AreWords left found → ((l : Location) → ¬ (AreLocationWords found l)) → ¬ (AreLocation left value)
other_words left found value are none (words, l, also, is, e) =
    none l (subst (λ (ws : List (List ℕ)). AreLocationWords ws l) (one_words left words found also are) is)

-- a text is one location at most
pub one_location : (left : List ℕ) (v w : FieldValue) → AreLocation left v → AreLocation left w → v ≡ w
one_location left v w (words, l, are, is, e) (others, m, also, that, f) =
    let same : l ≡ m = one_of_words words l m is (subst (λ (ws : List (List ℕ)). AreLocationWords ws m) (one_words left others words also are) that) in
    e ∙ ap (λ (own : Location). shaped (record { shape = shapes.Location; octets = location_wire own })) same ∙ sym f
