-- Serial numbers (RFC 1982, section 3), of 32 bits.
use Rattle.std.specs.Prelude.{ℕ, ◌+◌, ◌-◌, ◌%◌, ◌==◌, nat_lt, if◌then◌else◌, Option, Some, None}
use Rattle.std.specs.declared.cmp.Ordering.{Ordering}
use Rattle.std.specs.declared.cmp.Ordering.TheVariants.{Less, Equal, Greater}

-- how many serial numbers there are
abbrev pub serials : ℕ
serials = 4294967296

-- half as many: numbers so far apart are not ordered
abbrev pub half_serials : ℕ
half_serials = 2147483648

-- section 3.1: the sum starts again at 0 once it is past the greatest number
abbrev pub serial_sum : ℕ → ℕ → ℕ
serial_sum own other = (own + other) % serials

-- how far the other number comes after this one
abbrev pub distance : ℕ → ℕ → ℕ
distance own other = (other + (serials - own)) % serials

-- section 3.2: by the shorter way round
abbrev pub serial_cmp : ℕ → ℕ → Option Ordering
serial_cmp own other =
    if distance own other == 0 then Some Equal
    else if nat_lt (distance own other) half_serials then Some Less
    else if nat_lt half_serials (distance own other) then Some Greater else None
