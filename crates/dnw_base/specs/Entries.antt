-- Rows of a table of codes.
use Rattle.std.specs.Prelude.{ℕ, List}

-- a code, and its name or its text
pub record Entry : Type 0 where
  pub code : ℕ
  pub name : List ℕ

abbrev pub entry : ℕ → List ℕ → Entry
entry code name = record { code = code; name = name }
