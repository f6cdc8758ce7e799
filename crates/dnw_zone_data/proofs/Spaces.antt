-- What is between white space.
use Rattle.std.proofs.Common.{◌≡◌, ◌≢◌, ◌≤◌, ◌<◌, ℕ, suc, ◌+◌, ◌-◌, true, false, not, List, [], ◌∷◌, ◌++◌, length, take, drop, refl, sym, ap, ◌∙◌, arith, append_assoc, inl, inr}
use Rattle.std.specs.List.{filter, prefix_len}
use Rattle.std.proofs.lemmas.Bool.{cases_Bool}
use Rattle.std.proofs.lemmas.Bool.Decides.{nat_tests}
use Rattle.std.proofs.lemmas.List.{drop-drop, length-drop, take_all}
use Rattle.dnw_zone_data.specs.Words.{after_spaces, is_no_space, is_space}
use Rattle.dnw_zone_data.specs.Inside.WordParts.{PassesMarks, is_low}
use Rattle.dnw_zone_data.proofs.Lanes.{run}

-- ---- passing over characters that are no white space

no_space : (c : ℕ) → is_low c ≡ false → is_space c ≡ false
no_space c is = grind (arith, nat_tests)

mark_more : (c : ℕ) (cs : List ℕ) → is_low c ≡ false → prefix_len is_no_space (c ∷ cs) ≡ 1 + prefix_len is_no_space cs
mark_more c cs is = rw (no_space c is) refl

pub mark_run : (n k : ℕ) (xs : List ℕ) → n ≤ prefix_len (λ c. not (is_low c)) (take k xs) → prefix_len is_no_space xs ≡ n + prefix_len is_no_space (drop n xs)
mark_run n k xs few = run is_low (prefix_len is_no_space) mark_more n k xs few

pub marks_more : (n : ℕ) (text left : List ℕ) → n ≤ length left → prefix_len is_no_space left ≡ n + prefix_len is_no_space (drop n left) → PassesMarks text left
    → PassesMarks text (take (length left - n) (drop n left))
marks_more n text left size more (within, is, so) =
    let rest : take (length left - n) (drop n left) ≡ drop n left = take_all (length left - n) (drop n left) (omega (arith, length-drop n left)) in
    let passed : (length text - length left) + n ≡ length text - length (drop n left) = omega (arith, length-drop n left, size, within) in
    rw rest (
      omega (arith, length-drop n left, within),
      ap (drop n) is ∙ drop-drop n (length text - length left) text ∙ ap (λ (k : ℕ). drop k text) passed,
      omega (arith, length-drop n left, size, within, more, so),
    )

-- one more
pub mark_next : (text left rest : List ℕ) (c : ℕ) → left ≡ c ∷ rest → is_space c ≡ false → PassesMarks text left → PassesMarks text rest
mark_next text left rest c first is (within, at, so) =
    let size = ap length first in
    let more : prefix_len is_no_space left ≡ 1 + prefix_len is_no_space rest = ap (prefix_len is_no_space) first ∙ rw is refl in
    let passed : (length text - length left) + 1 ≡ length text - length rest = omega (arith, size, within) in (
      omega (arith, size, within),
      sym (ap (drop 1) first) ∙ ap (drop 1) at ∙ drop-drop 1 (length text - length left) text ∙ ap (λ (k : ℕ). drop k text) passed,
      omega (arith, size, within, more, so),
    )

-- ---- all of them

skips : (c : ℕ) (cs : List ℕ) → is_space c ≡ true → (after_spaces (c ∷ cs) ≡ after_spaces cs) × (filter is_no_space (c ∷ cs) ≡ filter is_no_space cs) × (prefix_len is_no_space (c ∷ cs) ≡ 0)
skips c cs is = (rw is refl, rw is refl, rw is refl)

keeps : (c : ℕ) (cs : List ℕ) → is_space c ≡ false
    → (after_spaces (c ∷ cs) ≡ c ∷ cs) × (filter is_no_space (c ∷ cs) ≡ c ∷ filter is_no_space cs) × (prefix_len is_no_space (c ∷ cs) ≡ suc (prefix_len is_no_space cs))
keeps c cs is = (rw is refl, rw is refl, rw is (omega arith))

pub kept_after : (xs : List ℕ) → filter is_no_space (after_spaces xs) ≡ filter is_no_space xs
kept_after [] = refl
kept_after (c ∷ cs) = elim (cases_Bool (is_space c)) [
  | inl e ↦ let (after, kept, none) = skips c cs e in ap (filter is_no_space) after ∙ kept_after cs ∙ sym kept
  | inr e ↦ ap (filter is_no_space) (keeps c cs e).0
]

kept_run : (xs : List ℕ) → filter is_no_space xs ≡ take (prefix_len is_no_space xs) xs ++ filter is_no_space (drop (prefix_len is_no_space xs) xs)
kept_run [] = refl
kept_run (c ∷ cs) =
    let parts : ℕ → List ℕ = λ k. take k (c ∷ cs) ++ filter is_no_space (drop k (c ∷ cs)) in
    elim (cases_Bool (is_space c)) [
      | inl e ↦ sym (ap parts (skips c cs e).2)
      | inr e ↦ let (after, kept, more) = keeps c cs e in kept ∙ ap (λ (l : List ℕ). c ∷ l) (kept_run cs) ∙ sym (ap parts more)
    ]

-- one run more
pub kept_more : (whole joined more left others run : List ℕ) → joined ++ filter is_no_space left ≡ whole → run ≡ take (prefix_len is_no_space left) left
    → others ≡ drop (prefix_len is_no_space left) left → more ≡ joined ++ run → more ++ filter is_no_space (after_spaces others) ≡ whole
kept_more whole joined more left others run so is-run is-others is-more =
    ap (λ (l : List ℕ). l ++ filter is_no_space (after_spaces others)) is-more ∙ append_assoc joined run (filter is_no_space (after_spaces others))
    ∙ ap (λ (l : List ℕ). joined ++ (run ++ l)) (kept_after others ∙ ap (filter is_no_space) is-others)
    ∙ ap (λ (l : List ℕ). joined ++ (l ++ filter is_no_space (drop (prefix_len is_no_space left) left))) is-run
    ∙ ap (λ (l : List ℕ). joined ++ l) (sym (kept_run left)) ∙ so

after_le : (xs : List ℕ) → length (after_spaces xs) ≤ length xs
after_le [] = omega arith
after_le (c ∷ cs) = elim (cases_Bool (is_space c)) [
  | inl e ↦ omega (arith, ap length (skips c cs e).0, after_le cs)
  | inr e ↦ omega (arith, ap length (keeps c cs e).0)
]

shrinks : (xs : List ℕ) → xs ≢ [] → length (after_spaces (drop (prefix_len is_no_space xs) xs)) < length xs
shrinks [] some = absurd (some refl)
shrinks (c ∷ cs) some =
    let left : ℕ → ℕ = λ k. length (after_spaces (drop k (c ∷ cs))) in
    elim (cases_Bool (is_space c)) [
      | inl e ↦ let (after, kept, none) = skips c cs e in omega (arith, ap left none, ap length after, after_le cs)
      | inr e ↦
          let n = prefix_len is_no_space cs in
          omega (arith, ap left (keeps c cs e).2, after_le (drop n cs), length-drop n cs)
    ]

pub run_shrinks : (left others : List ℕ) → left ≢ [] → others ≡ drop (prefix_len is_no_space left) left → length (after_spaces others) < length left
run_shrinks left others some is = rw is (shrinks left some)
