-- What a call that parses a text returns, and what one that appends octets to a vector leaves.
use Rattle.std.specs.Prelude.{◌≡◌, ◌≤◌, ℕ, List, ◌++◌, length, ◌⊎◌, Result, Ok, Err, MatchResult}
use Rattle.dnw_zone_values.specs.declared.error.FieldTextError.{FieldTextError}
use Rattle.dnw_zone_values.specs.declared.error.FieldTextError.TheVariants.{Memory}

-- a value that the text spells, or this error if it spells none
abbrev pub ReadsText : {A : Type 0} → FieldTextError → (A → Type 0) → Result A FieldTextError → Type 0
ReadsText {A} wanted Spells r = MatchResult r Spells (λ e. (e ≡ wanted) × ((value : A) → ¬ (Spells value)))

-- why no octets were appended: the text spells none, or memory ran out
abbrev pub FailsToAppend : FieldTextError → (List ℕ → List ℕ → Type 0) → List ℕ → FieldTextError → Type 0
FailsToAppend wanted Spells text e =
    ((e ≡ wanted) × ((octets : List ℕ) → ¬ (Spells text octets))) ⊎ ((e ≡ Memory) × (1 ≤ length text))

-- The vector has the octets more that the text spells, or it is unchanged.
abbrev pub Appends : FieldTextError → (List ℕ → List ℕ → Type 0) → List ℕ → List ℕ → List ℕ → Result Unit FieldTextError → Type 0
Appends wanted Spells text old new (Ok done) = (octets : List ℕ) × Spells text octets × (new ≡ old ++ octets)
Appends wanted Spells text old new (Err e) = FailsToAppend wanted Spells text e × (new ≡ old)

-- What is printed of a value spells it, and nothing else. So what is printed is parsed as the same value.
abbrev pub ComesBack : {A : Type 0} → (A → Type 0) → (A → List ℕ) → (List ℕ → A → Type 0) → Type 0
ComesBack {A} Is print Spells = (value : A) → Is value → Spells (print value) value × ((other : A) → Spells (print value) other → other ≡ value)
