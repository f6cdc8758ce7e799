-- Octets as numbers.
use Rattle.std.specs.Prelude.{ℕ, ◌+◌, ◌*◌}

-- four octets as one number
abbrev pub four : ℕ → ℕ → ℕ → ℕ → ℕ
four a b c d = a + b * 256 + c * 65536 + d * 16777216
