use Rattle.std.proofs.Common.{◌≡◌, ◌==◌, ℕ, false, List, [], ◌∷◌, length, refl, arith}
use Rattle.std.proofs.lemmas.Bool.{ne_eqb}
use Rattle.dnw_name.proofs.name.Name.into_wildcard.Goals as goal

some : (ls : List (List ℕ)) → (ls ≡ [] → ⊥) → (length ls == 0) ≡ false
some [] h = absurd (h refl)
some (l ∷ ls) h = ne_eqb (length (l ∷ ls)) 0 (λ e. omega (arith, e))

pub returns-in-Some : goal.returns-in-Some
returns-in-Some c =
    let (not_empty, form) = c.in-Some.ensures in
    rw (← c.self.view_is, some c.self.inside.form not_empty, form) refl
