-- The lengths of the last labels, packed in a number.
use Rattle.std.specs.Prelude.{◌≡◌, ℕ, ◌/◌, ◌%◌, ◌⊎◌, List, [], ◌∷◌, length}

-- The octets of the number from the low one on are the lengths of the labels, which stand from the last one on. It may end
-- before they do.
abbrev pub HasLengths : List (List ℕ) → ℕ → Type 0
HasLengths [] lengths = lengths ≡ 0
HasLengths (l ∷ ls) lengths = (lengths ≡ 0) ⊎ ((lengths % 256 ≡ length l) × HasLengths ls (lengths / 256))
