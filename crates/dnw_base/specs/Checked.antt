-- Exact results that have to fit: a sum and a product below a limit, and a difference that is no less than zero.
use Rattle.std.specs.Prelude.{ℕ, ◌+◌, ◌-◌, ◌*◌, nat_lt, nat_le, if◌then◌else◌, Option, Some, None}

abbrev pub sum_below : ℕ → ℕ → ℕ → Option ℕ
sum_below limit x y = if nat_lt (x + y) limit then Some (x + y) else None

abbrev pub difference : ℕ → ℕ → Option ℕ
difference x y = if nat_le y x then Some (x - y) else None

abbrev pub product_below : ℕ → ℕ → ℕ → Option ℕ
product_below limit x y = if nat_lt (x * y) limit then Some (x * y) else None
