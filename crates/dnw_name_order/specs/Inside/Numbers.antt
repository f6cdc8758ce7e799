-- Octets as one number.
use Rattle.std.specs.Prelude.{ℕ, zero, suc, ◌+◌, ◌*◌, List, get_or}

-- the n octets from an index on, of which the first is the highest one
abbrev pub number_from : List ℕ → ℕ → ℕ → ℕ
number_from octets index zero = 0
number_from octets index (suc n) = number_from octets index n * 256 + get_or octets (index + n) 0
