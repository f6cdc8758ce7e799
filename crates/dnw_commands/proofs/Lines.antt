-- Lines, one after another.
use Rattle.std.proofs.Common.{◌≡◌, ◌+◌, ◌<◌, ◌≤◌, ℕ, suc, List, drop, length, get_or, Bor, arith, [], ◌∷◌, ◌++◌, inl, inr, refl, sym, subst, ap, ◌∙◌, append_assoc, append-nil}
use Rattle.std.proofs.Math.Seq.{drop-cons}
use Rattle.std.proofs.lemmas.List.{drop_all}
use Rattle.dnw_commands.specs.declared.base.refusal.Refusal.{Refusal}
use Rattle.dnw_commands.specs.declared.names.shown.Shown.{Shown}
use Rattle.dnw_commands.specs.Shown.{AreLines, FailsWord, FailsLines, IsLineOf, texts_of}

-- A text has the lines of words but of those that are left.
pub record HasLines (shown : Shown) (words left : List (List ℕ)) (text : List ℕ) : Type 0 where
  pub more : (others : List ℕ) → AreLines shown left others → AreLines shown words (text ++ others)
  pub fails : (refusal : Refusal) → FailsLines shown left refusal → FailsLines shown words refusal

pub no_line : (shown : Shown) (words : List (List ℕ)) → HasLines shown words words []
no_line shown words = record { more = λ others lines. lines; fails = λ refusal fails. fails }

pub one_line : (shown : Shown) (words left : List (List ℕ)) (word text line new : List ℕ) → HasLines shown words (word ∷ left) text → IsLineOf shown word line
    → new ≡ text ++ (line ++ 10 ∷ []) → HasLines shown words left new
one_line shown words left word text line new has is grown = record {
  more = λ others lines.
      let seam = sym (ap (λ (xs : List ℕ). xs ++ others) grown ∙ append_assoc text (line ++ 10 ∷ []) others) in
      subst (AreLines shown words) seam (has.more ((line ++ 10 ∷ []) ++ others) (line, others, is, lines, refl));
  fails = λ refusal fails. has.fails refusal (inr (line, is, fails));
}

pub all_lines : (shown : Shown) (words : List (List ℕ)) (text : List ℕ) → HasLines shown words [] text → AreLines shown words text
all_lines shown words text has = subst (AreLines shown words) (append-nil text) (has.more [] refl)

pub no_more : (shown : Shown) (words left : List (List ℕ)) (word text : List ℕ) (refusal : Refusal) → HasLines shown words (word ∷ left) text
    → FailsWord shown word refusal → FailsLines shown words refusal
no_more shown words left word text refusal has fails = has.fails refusal (inl fails)

pub one_word : (shown : Shown) (words : List (Bor (List ℕ))) (k : ℕ) (d : Bor (List ℕ)) (text line new : List ℕ) → k < length words
    → HasLines shown (texts_of words) (texts_of (drop k words)) text → IsLineOf shown (get_or words k d).now line → new ≡ text ++ (line ++ 10 ∷ [])
    → HasLines shown (texts_of words) (texts_of (drop (k + 1) words)) new
one_word shown words k d text line new within has is grown =
    let next : suc k ≡ k + 1 = omega arith in
    let split = drop-cons words k d within ∙ ap (λ (n : ℕ). get_or words k d ∷ drop n words) next in
    one_line shown (texts_of words) (texts_of (drop (k + 1) words)) (get_or words k d).now text line new
    (subst (λ (xs : List (Bor (List ℕ))). HasLines shown (texts_of words) (texts_of xs) text) split has) is grown

pub all_words : (shown : Shown) (words : List (Bor (List ℕ))) (k : ℕ) (text : List ℕ) → length words ≤ k
    → HasLines shown (texts_of words) (texts_of (drop k words)) text → AreLines shown (texts_of words) text
all_words shown words k text past has =
    all_lines shown (texts_of words) text (subst (λ (xs : List (Bor (List ℕ))). HasLines shown (texts_of words) (texts_of xs) text) (drop_all k words past) has)
