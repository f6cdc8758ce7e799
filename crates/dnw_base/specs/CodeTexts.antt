-- The texts of codes without a name (RFC 3597, section 5): a word, in upper or lower case, and the code in decimal digits.
use Rattle.std.specs.Prelude.{ℕ, ◌+◌, ◌-◌, ◌*◌, ◌==◌, nat_lt, if◌then◌else◌, List, [], ◌∷◌, ◌++◌, length, take, drop, Option, Some, None}
use Rattle.std.specs.Char.{is_ascii_digit}
use Rattle.std.specs.Fmt.{decimal}
use Rattle.std.specs.Str.{str_eq_ignore_ascii_case}

-- the text of a code after a word
abbrev pub numbered : List ℕ → ℕ → List ℕ
numbered word code = word ++ decimal code

-- the code of 16 bits that digits write after those of n, if nothing but digits follows
abbrev pub decimal_after : ℕ → List ℕ → Option ℕ
decimal_after n [] = if nat_lt n 65536 then Some n else None
decimal_after n (c ∷ cs) = if is_ascii_digit c then decimal_after (10 * n + (c - 48)) cs else None

-- the same of a text; zeros may come first
abbrev pub decimal_code : List ℕ → Option ℕ
decimal_code digits = if length digits == 0 then None else decimal_after 0 digits

-- the code that follows a word
abbrev pub code_after : List ℕ → List ℕ → Option ℕ
code_after word text =
    if str_eq_ignore_ascii_case (take (length word) text) word then decimal_code (drop (length word) text) else None
