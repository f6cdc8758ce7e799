-- What is left in a buffer that bytes are put into.
use Rattle.std.specs.Prelude.{ℕ, List, ◌++◌, length, drop}

-- these bytes at the front of the buffer, and the others unchanged
abbrev pub put : List ℕ → List ℕ → List ℕ
put buffer bytes = bytes ++ drop (length bytes) buffer
