-- Characters of JSON strings (RFC 8259, section 7).
use Rattle.std.specs.Prelude.{◌-◌, ◌^◌, ◌==◌, ℕ, false, if◌then◌else◌, List, [], ◌∷◌, ◌++◌, codes, encode_utf8}
use Rattle.std.specs.Char.{is_control}
use Rattle.std.specs.Fmt.{digits, format_spec, padded_integral}

-- a number in hexadecimal, with four digits
abbrev pub four_digits : ℕ → List ℕ
four_digits n = padded_integral (format_spec 32 0 4 4 (2 ^ 64 - 1)) false [] (digits 16 false n)

-- a character: quotes and backslashes after a backslash, and what is for control by its number
abbrev pub json_char : ℕ → List ℕ
json_char c =
    if c == 34 then codes "\\\""
    else if c == 92 then codes "\\\\"
    else if is_control c then codes "\\u" ++ four_digits c
    else encode_utf8 c
