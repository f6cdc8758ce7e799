-- What is left of a template goes on from what was made of it.
use Rattle.std.proofs.Common.{◌≡◌, ℕ, suc, zero, Bool, List, [], ◌∷◌, ◌++◌, drop, Option, Some, None, refl, ap, sym, ◌∙◌, append_assoc, subst}
use Rattle.std.proofs.lemmas.List.{append-nil}
use Rattle.dnw_zone_file.specs.Inside.Making.{FailsMade, IsMade}
use Rattle.dnw_zone_file.specs.Templates.{both_texts, made_text, made_after, piece_len, piece_text}
use Rattle.dnw_zone_file.specs.declared.template.TemplateError.{TemplateError}
use Rattle.dnw_zone_file.specs.declared.template.TemplateError.TheVariants.{Modifier, Memory}

-- octets that belong to what is before them are left out
skipped : (n : ℕ) (quoted : Bool) (len : ℕ) (text : List ℕ) → made_after n quoted len text ≡ made_text n quoted (drop len text)
skipped n quoted zero text = refl
skipped n quoted (suc len) [] = refl
skipped n quoted (suc len) (c ∷ cs) = skipped n quoted len cs

-- Of a template this is appended, and this is left.
pub record MadeSoFar (n : ℕ) (quoted : Bool) (template old new left : List ℕ) : Type 0 where
  pub own : List ℕ
  pub appended : new ≡ old ++ own
  pub goes_on : made_text n quoted template ≡ both_texts (Some own) (made_text n quoted left)

nothing_before : (rest : Option (List ℕ)) → rest ≡ both_texts (Some []) rest
nothing_before None = refl
nothing_before (Some rest) = refl

both_before : (first second : List ℕ) (rest : Option (List ℕ)) → both_texts (Some first) (both_texts (Some second) rest) ≡ both_texts (Some (first ++ second)) rest
both_before first second None = refl
both_before first second (Some rest) = ap Some (sym (append_assoc first second rest))

pub made_begins : (n : ℕ) (quoted : Bool) (template old : List ℕ) → MadeSoFar n quoted template old old template
made_begins n quoted template old = record { own = []; appended = sym (append-nil old); goes_on = nothing_before (made_text n quoted template) }

module _ {n : ℕ} {quoted : Bool} {template old new left : List ℕ} (so_far : MadeSoFar n quoted template old new left) where
  -- what is made of all, by a piece
  by_piece : (c : ℕ) (cs : List ℕ) (piece : Option (List ℕ)) → left ≡ c ∷ cs → piece_text n quoted c cs ≡ piece
      → made_text n quoted template ≡ both_texts (Some so_far.own) (both_texts piece (made_text n quoted (drop (piece_len c cs) cs)))
  by_piece c cs piece e is =
      so_far.goes_on ∙ ap (λ (text : List ℕ). both_texts (Some so_far.own) (made_text n quoted text)) e
      ∙ ap (λ (p : Option (List ℕ)). both_texts (Some so_far.own) (both_texts p (made_after n quoted (piece_len c cs) cs))) is
      ∙ ap (λ (rest : Option (List ℕ)). both_texts (Some so_far.own) (both_texts piece rest)) (skipped n quoted (piece_len c cs) cs)

  on_by : (c : ℕ) (cs more : List ℕ) (piece : Option (List ℕ)) → left ≡ c ∷ cs → piece_text n quoted c cs ≡ piece → IsMade piece new more
      → MadeSoFar n quoted template old more (drop (piece_len c cs) cs)
  on_by c cs more None e is puts = absurd puts
  on_by c cs more (Some text) e is puts = record {
    own = so_far.own ++ text;
    appended = puts ∙ ap (λ (xs : List ℕ). xs ++ text) so_far.appended ∙ append_assoc old so_far.own text;
    goes_on = by_piece c cs (Some text) e is ∙ both_before so_far.own text _;
  }

  -- a piece more is appended
  pub made_on : (c : ℕ) (cs more : List ℕ) (len : ℕ) → left ≡ c ∷ cs → IsMade (piece_text n quoted c cs) new more → len ≡ piece_len c cs
      → MadeSoFar n quoted template old more (drop len cs)
  made_on c cs more len e puts is = subst (λ (k : ℕ). MadeSoFar n quoted template old more (drop k cs)) (sym is) (on_by c cs more _ e refl puts)

  -- nothing is left
  pub made_ends : left ≡ [] → IsMade (made_text n quoted template) old new
  made_ends e =
      let all : made_text n quoted template ≡ Some (so_far.own ++ []) = so_far.goes_on ∙ ap (λ (text : List ℕ). both_texts (Some so_far.own) (made_text n quoted text)) e in
      rw all (so_far.appended ∙ ap (λ (xs : List ℕ). old ++ xs) (sym (append-nil so_far.own)))

  -- a piece makes nothing
  pub made_fails : (c : ℕ) (cs : List ℕ) (error : TemplateError) → left ≡ c ∷ cs → FailsMade (piece_text n quoted c cs) error
      → FailsMade (made_text n quoted template) error
  made_fails c cs Modifier e fails = by_piece c cs None e fails
  made_fails c cs Memory e fails = tt
