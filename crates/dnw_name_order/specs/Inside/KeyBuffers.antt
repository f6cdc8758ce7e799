-- Keys as they are written into a buffer.
use Rattle.std.specs.Prelude.{◌≡◌, ℕ, ◌+◌, List, ◌++◌, length, take}

-- The octets stand in a buffer from an offset to an end, and the octets before them are unchanged.
pub record AppendsKey (before : List ℕ) (start : ℕ) (octets : List ℕ) (after : List ℕ) (end : ℕ) : Type 0 where
  pub front : take end after ≡ take start before ++ octets
  pub size : end ≡ start + length octets
