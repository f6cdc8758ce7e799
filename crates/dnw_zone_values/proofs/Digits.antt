-- The numbers that digits write.
use Rattle.std.proofs.Common.{ℕ, ◌+◌, ◌*◌, ◌≤◌, List, [], ◌∷◌, arith, le_trans}
use Rattle.std.specs.Char.{digit_value}
use Rattle.std.specs.Str.Parse.{digits_value_after}

-- more digits write no smaller number
pub least : (n : ℕ) (ds : List ℕ) → n ≤ digits_value_after 10 n ds
least n [] = omega arith
least n (c ∷ cs) = le_trans (omega arith) (least (n * 10 + digit_value c) cs)
