-- Words without quotes, character by character.
use Rattle.std.proofs.Common.{◌≡◌, ◌≢◌, inl, inr, ℕ, ◌+◌, true, false, ◌==◌, List, [], ◌∷◌, refl}
use Rattle.std.proofs.lemmas.Bool.{cases_Bool, ne_eqb}
use Rattle.dnw_zone_values.specs.Strings.{backslash}
use Rattle.dnw_zone_data.specs.Words.{is_word_end, plain_len}
use Rattle.dnw_zone_data.specs.Inside.WordParts.{is_word_part}

pub goes_on : (c : ℕ) (cs : List ℕ) → is_word_part c ≡ true → plain_len false (c ∷ cs) ≡ 1 + plain_len false cs
unfolding is_word_part
goes_on c cs is = elim (cases_Bool (is_word_end c)) [
  | inl e ↦ absurd (let none : false ≡ true = rw e at is in cc)
  | inr e ↦ elim (cases_Bool (c == backslash)) [
    | inl b ↦ absurd (let none : false ≡ true = rw (e, b) at is in cc)
    | inr b ↦ rw (e, b) refl
  ]
]

pub ends : (c : ℕ) (cs : List ℕ) → is_word_part c ≡ false → c ≢ backslash → plain_len false (c ∷ cs) ≡ 0
unfolding is_word_part
ends c cs is plain = elim (cases_Bool (is_word_end c)) [
  | inl e ↦ rw e refl
  | inr e ↦ absurd (let none : true ≡ false = rw (e, ne_eqb c backslash plain) at is in cc)
]

pub ends_escaping : (c : ℕ) → c ≡ backslash → plain_len false (c ∷ []) ≡ 1
ends_escaping c e = rw e refl
