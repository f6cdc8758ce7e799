-- Texts that grow by parts.
use Rattle.std.proofs.Common.{◌≡◌, ℕ, List, [], ◌∷◌, ◌++◌, refl, sym, subst, ap, ◌∙◌, append_assoc, append-nil}
use Rattle.dnw_message_text.specs.Parts.{AddsText, AreParts}

-- Parts for all items but those that are left are appended: with parts for these, there are parts for all.
pub record HasParts {A : Type 0} (Is : A → List ℕ → Type 0) (all left : List A) (old new : List ℕ) : Type 0 where
  pub done : List ℕ
  pub grown : new ≡ old ++ done
  pub more : (others : List ℕ) → AreParts Is left others → AreParts Is all (done ++ others)

pub no_part : {A : Type 0} (Is : A → List ℕ → Type 0) (all : List A) (old : List ℕ) → HasParts Is all all old old
no_part Is all old = record { done = []; grown = sym (append-nil old); more = λ others are. are }

pub one_part : {A : Type 0} (Is : A → List ℕ → Type 0) (all left : List A) (x : A) (old text new : List ℕ) → HasParts Is all (x ∷ left) old text
    → AddsText (Is x) text new → HasParts Is all left old new
one_part Is all left x old text new has (own, is, grown) = record {
  done = has.done ++ own;
  grown = grown ∙ ap (λ (bs : List ℕ). bs ++ own) has.grown ∙ append_assoc old has.done own;
  more = λ others are. subst (AreParts Is all) (sym (append_assoc has.done own others)) (has.more (own ++ others) (own, others, is, are, refl));
}

pub all_parts : {A : Type 0} (Is : A → List ℕ → Type 0) (all : List A) (old new : List ℕ) → HasParts Is all [] old new → AddsText (AreParts Is all) old new
all_parts Is all old new has = (has.done, subst (AreParts Is all) (append-nil has.done) (has.more [] refl), has.grown)
