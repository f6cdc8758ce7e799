-- Characters of words.
use Rattle.std.specs.Prelude.{ℕ, ◌≡◌, ◌≤◌, ◌+◌, ◌-◌, Bool, not, ◌&&◌, ◌||◌, ◌==◌, nat_le, nat_lt, List, length, drop}
use Rattle.std.specs.List.{prefix_len}
use Rattle.dnw_zone_values.specs.Strings.{quote, backslash}
use Rattle.dnw_zone_data.specs.Words.{is_no_space, is_word_end}

-- a character outside of quotes that neither ends a word nor gives another meaning to the next one
unfoldable pub is_word_part : ℕ → Bool
is_word_part c = not (is_word_end c) && not (c == backslash)

-- a character up to `)`, or one of two others: each that is no part of a word outside of quotes is one of these
abbrev pub is_plain_stop : ℕ → Bool
is_plain_stop c = nat_le c 41 || c == 59 || c == backslash

-- a character that ends a quoted string or escapes the next one
abbrev pub is_quoted_stop : ℕ → Bool
is_quoted_stop c = c == quote || c == backslash

-- a character up to the space
abbrev pub is_low : ℕ → Bool
is_low c = nat_le c 32

-- so many characters of a text are left, after others that are no white space
abbrev pub PassesMarks : List ℕ → List ℕ → Type 0
PassesMarks text left =
    (length left ≤ length text) × (left ≡ drop (length text - length left) text)
    × ((length text - length left) + prefix_len is_no_space left ≡ prefix_len is_no_space text)

-- a character after the space
abbrev pub is_mark : ℕ → Bool
is_mark c = nat_lt 32 c
