-- The labels that are left of a name, after one that is not looked for.
use Rattle.std.proofs.Common.{◌≡◌, ◌↔◌, ◌∷◌, suc, List, Contains, arith, subst}
use Rattle.std.proofs.lemmas.Map.Made.{Contains-tail}

after : {X : Type 0} (x : X) (rest : List X) (sought : X) (P : Type 0) → (x ≡ sought → ⊥) → Contains (x ∷ rest) sought ↔ P → Contains rest sought ↔ P
after x rest sought P other all =
    (λ (k, less, is). all.0 (suc k, omega (arith, less), is), λ p. Contains-tail x rest sought other (all.1 p))

pub left_after : {X : Type 0} {labels : List X} {x : X} {rest : List X} {sought : X} {P : Type 0}
    → labels ≡ x ∷ rest → (x ≡ sought → ⊥) → Contains labels sought ↔ P → Contains rest sought ↔ P
left_after {labels} {x} {rest} {sought} {P} is other all = after x rest sought P other (subst (λ ls. Contains ls sought ↔ P) is all)
