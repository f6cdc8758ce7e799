-- Texts that are made of parts, one for each item of a list.
use Rattle.std.specs.Prelude.{◌≡◌, ℕ, Bool, List, [], ◌∷◌, ◌++◌, if◌then◌else◌}

-- A text of this kind is appended.
abbrev pub AddsText : (List ℕ → Type 0) → List ℕ → List ℕ → Type 0
AddsText Is old new = (own : List ℕ) × Is own × (new ≡ old ++ own)

-- A text is a part of this kind for each item, one after the other.
abbrev pub AreParts : {A : Type 0} → (A → List ℕ → Type 0) → List A → List ℕ → Type 0
AreParts Is [] text = text ≡ []
AreParts Is (x ∷ xs) text = (own : List ℕ) × (others : List ℕ) × Is x own × AreParts Is xs others × (text ≡ own ++ others)

-- a text, if it is there
abbrev pub text_if : Bool → List ℕ → List ℕ
text_if is_there text = if is_there then text else []
