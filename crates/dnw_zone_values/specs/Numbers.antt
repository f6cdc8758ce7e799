-- Numbers in decimal (RFC 1035, section 5.1): one or more digits, with any zeros before them.
use Rattle.std.specs.Prelude.{◌≡◌, ℕ, ◌≤◌, List}
use Rattle.std.specs.Str.Parse.{IsNumeral, digits_value}

-- the greatest numbers of one, two, four and six octets
abbrev pub max_u8 : ℕ
max_u8 = 255

abbrev pub max_u16 : ℕ
max_u16 = 65535

abbrev pub max_u32 : ℕ
max_u32 = 4294967295

abbrev pub max_u48 : ℕ
max_u48 = 281474976710655

-- the text is one or more digits that write this number, which is no greater than the first
abbrev pub IsNumberText : ℕ → List ℕ → ℕ → Type 0
IsNumberText max text n = IsNumeral 10 text × (digits_value 10 text ≡ n) × (n ≤ max)
