-- Words of locations, as slices have them.
use Rattle.std.proofs.Common.{◌≡◌, ◌≤◌, ◌<◌, ℕ, true, false, List, [], ◌∷◌, ◌++◌, length, map, codes, refl, sym, arith, append_assoc, append-nil, Bor, get_or}
use Rattle.std.specs.Prelude.{Option, MatchOption}
use Rattle.std.proofs.lemmas.List.Concat.{flat_map-append}
use Rattle.dnw_zone_values.specs.declared.location.Axis.{Axis}
use Rattle.dnw_zone_values.specs.declared.location.Location.{Location}
use Rattle.dnw_zone_values.specs.Locations.{is_letter, words_text, with_sizes, AreSizes, BeginWithAngle, IsAngle}

abbrev pub texts : List (Bor (List ℕ)) → List (List ℕ)
texts words = map (λ w. w.now) words

-- ---- no angle

pub no_two : (axis : Axis) (words : List (Bor (List ℕ))) (z : Bor (List ℕ)) → 2 ≤ length words → true ≡ is_letter axis (get_or words 1 z).now
    → ((n : ℕ) → ¬ (IsAngle axis (get_or words 0 z).now (codes "0") (codes "0") (get_or words 1 z).now n))
    → (n : ℕ) (rest : List (List ℕ)) → ¬ (BeginWithAngle axis (texts words) n rest)
no_two axis [] z few here none n rest is = omega (arith, few)
no_two axis (d ∷ []) z few here none n rest is = omega (arith, few)
no_two axis (d ∷ h ∷ words) z few here none n rest is = let whole = rw (sym here) at is in none n whole.0

pub no_three : (axis : Axis) (words : List (Bor (List ℕ))) (z : Bor (List ℕ)) → 3 ≤ length words → false ≡ is_letter axis (get_or words 1 z).now
    → true ≡ is_letter axis (get_or words 2 z).now
    → ((n : ℕ) → ¬ (IsAngle axis (get_or words 0 z).now (get_or words 1 z).now (codes "0") (get_or words 2 z).now n))
    → (n : ℕ) (rest : List (List ℕ)) → ¬ (BeginWithAngle axis (texts words) n rest)
no_three axis [] z few other here none n rest is = omega (arith, few)
no_three axis (d ∷ []) z few other here none n rest is = omega (arith, few)
no_three axis (d ∷ m ∷ []) z few other here none n rest is = omega (arith, few)
no_three axis (d ∷ m ∷ h ∷ words) z few other here none n rest is = let whole = rw (sym other, sym here) at is in none n whole.0

pub no_four : (axis : Axis) (words : List (Bor (List ℕ))) (z : Bor (List ℕ)) → 4 ≤ length words → false ≡ is_letter axis (get_or words 1 z).now
    → false ≡ is_letter axis (get_or words 2 z).now
    → ((n : ℕ) → ¬ (IsAngle axis (get_or words 0 z).now (get_or words 1 z).now (get_or words 2 z).now (get_or words 3 z).now n))
    → (n : ℕ) (rest : List (List ℕ)) → ¬ (BeginWithAngle axis (texts words) n rest)
no_four axis [] z few other others none n rest is = omega (arith, few)
no_four axis (d ∷ []) z few other others none n rest is = omega (arith, few)
no_four axis (d ∷ m ∷ []) z few other others none n rest is = omega (arith, few)
no_four axis (d ∷ m ∷ s ∷ []) z few other others none n rest is = omega (arith, few)
no_four axis (d ∷ m ∷ s ∷ h ∷ words) z few other others none n rest is = let whole = rw (sym other, sym others) at is in none n whole.0

-- ---- sizes

-- what is found of all sizes
abbrev pub Sized : List (List ℕ) → ℕ → ℕ → Option Location → Type 0
Sized words m n r = MatchOption r ((l : Location) → ¬ (AreSizes words l)) (λ (l : Location). AreSizes words l × (l.latitude ≡ m) × (l.longitude ≡ n))

pub one_word : (words : List (Bor (List ℕ))) (z : Bor (List ℕ)) → 1 ≤ length words → length words < 2
    → with_sizes (texts words) ≡ (get_or words 0 z).now ∷ codes "1m" ∷ codes "10000m" ∷ codes "10m" ∷ []
one_word [] z some few = absurd (omega (arith, some))
one_word (a ∷ []) z some few = refl
one_word (a ∷ b ∷ words) z some few = absurd (omega (arith, few))

pub two_words : (words : List (Bor (List ℕ))) (z : Bor (List ℕ)) → 2 ≤ length words → length words < 3
    → with_sizes (texts words) ≡ (get_or words 0 z).now ∷ (get_or words 1 z).now ∷ codes "10000m" ∷ codes "10m" ∷ []
two_words [] z some few = absurd (omega (arith, some))
two_words (a ∷ []) z some few = absurd (omega (arith, some))
two_words (a ∷ b ∷ []) z some few = refl
two_words (a ∷ b ∷ c ∷ words) z some few = absurd (omega (arith, few))

pub three_words : (words : List (Bor (List ℕ))) (z : Bor (List ℕ)) → 3 ≤ length words → length words < 4
    → with_sizes (texts words) ≡ (get_or words 0 z).now ∷ (get_or words 1 z).now ∷ (get_or words 2 z).now ∷ codes "10m" ∷ []
three_words [] z some few = absurd (omega (arith, some))
three_words (a ∷ []) z some few = absurd (omega (arith, some))
three_words (a ∷ b ∷ []) z some few = absurd (omega (arith, some))
three_words (a ∷ b ∷ c ∷ []) z some few = refl
three_words (a ∷ b ∷ c ∷ d ∷ words) z some few = absurd (omega (arith, few))

pub four_words : (words : List (Bor (List ℕ))) (z : Bor (List ℕ)) → 4 ≤ length words → length words < 5
    → with_sizes (texts words) ≡ (get_or words 0 z).now ∷ (get_or words 1 z).now ∷ (get_or words 2 z).now ∷ (get_or words 3 z).now ∷ []
four_words [] z some few = absurd (omega (arith, some))
four_words (a ∷ []) z some few = absurd (omega (arith, some))
four_words (a ∷ b ∷ []) z some few = absurd (omega (arith, some))
four_words (a ∷ b ∷ c ∷ []) z some few = absurd (omega (arith, some))
four_words (a ∷ b ∷ c ∷ d ∷ []) z some few = refl
four_words (a ∷ b ∷ c ∷ d ∷ e ∷ words) z some few = absurd (omega (arith, few))

pub too_many : (words : List (Bor (List ℕ))) (l : Location) → 5 ≤ length words → AreSizes (with_sizes (texts words)) l → ⊥
too_many [] l many are = omega (arith, many)
too_many (a ∷ []) l many are = omega (arith, many)
too_many (a ∷ b ∷ []) l many are = omega (arith, many)
too_many (a ∷ b ∷ c ∷ []) l many are = omega (arith, many)
too_many (a ∷ b ∷ c ∷ d ∷ []) l many are = omega (arith, many)
too_many (a ∷ b ∷ c ∷ d ∷ e ∷ words) l many are = are

-- ---- text

pub one_after_another : (old a b c d e f : List ℕ) (x y : List (List ℕ)) (altitude size horizontal vertical : List ℕ) → a ≡ old ++ words_text x → b ≡ a ++ words_text y
    → c ≡ b ++ 32 ∷ altitude → d ≡ c ++ 32 ∷ size → e ≡ d ++ 32 ∷ horizontal → f ≡ e ++ 32 ∷ vertical
    → f ≡ old ++ words_text (x ++ y ++ altitude ∷ size ∷ horizontal ∷ vertical ∷ [])
one_after_another old a b c d e f x y altitude size horizontal vertical ea eb ec ed ee ef =
    rw (ef, ee, ed, ec, eb, ea) (simp (append_assoc, flat_map-append, append-nil))
