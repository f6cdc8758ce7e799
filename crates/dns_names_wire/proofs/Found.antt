-- What a search finds, or else its default.
use Rattle.std.proofs.Common.{◌≡◌, Bool, true, false, List, [], ◌∷◌, Option, Some, refl}
use Rattle.std.specs.Prelude.{find, unwrap_or, cond}
use Rattle.std.specs.List.{AllByRecursion}

step : {X : Type 0} (P : X → Type 0) (x other : X) (rest : Option X) (test : Bool) → (test ≡ true → P x) → P (unwrap_or rest other)
    → P (unwrap_or (cond test (Some x) rest) other)
step P x other rest true passes left = passes refl
step P x other rest false passes left = left

-- What holds of the default, and of each element that passes, holds of what is found.
pub found : {X : Type 0} (P : X → Type 0) (test : X → Bool) (xs : List X) (other : X) → AllByRecursion (λ x. test x ≡ true → P x) xs → P other
    → P (unwrap_or (find test xs) other)
found P test [] other all is = is
found P test (x ∷ xs) other all is = step P x other (find test xs) (test x) all.0 (found P test xs other all.1 is)
