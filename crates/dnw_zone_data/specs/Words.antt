-- How a text is split into words (RFC 1035, section 5.1). A word that begins with a quote goes up to the next quote that is not after a
-- backslash. Any other goes up to white space, a quote, a parenthesis or a semicolon that is not after a backslash. Comments and
-- parentheses are of the lines around a text, and are no part of it: at one of these characters no word begins, so that no field is
-- there.
use Rattle.std.specs.Prelude.{ℕ, ◌+◌, Bool, not, true, false, ◌&&◌, ◌||◌, ◌==◌, if◌then◌else◌, List, [], ◌∷◌, take, drop}
use Rattle.std.specs.List.{filter}
use Rattle.dnw_zone_values.specs.Strings.{quote, backslash}

-- a space, a tab, or the end of a line
abbrev pub is_space : ℕ → Bool
is_space c = c == 32 || c == 9 || c == 13 || c == 10

abbrev pub is_no_space : ℕ → Bool
is_no_space c = not (is_space c)

abbrev pub after_spaces : List ℕ → List ℕ
after_spaces [] = []
after_spaces (c ∷ cs) = if is_space c then after_spaces cs else c ∷ cs

-- `"`, `(`, `)`, `;` and white space end a word that is not in quotes
abbrev pub is_word_end : ℕ → Bool
is_word_end c = is_space c || c == quote || c == 40 || c == 41 || c == 59

-- Outside of quotes, escapes and comments, other characters are parts of words or white space.
abbrev pub is_plain_octet : ℕ → Bool
is_plain_octet c = not (c == 10 || c == 13 || c == quote || c == 40 || c == 41 || c == 59 || c == backslash)

-- the next character is after a backslash
abbrev pub escaped_after : Bool → ℕ → Bool
escaped_after escaped c = not escaped && (c == backslash)

-- the number of characters up to the end of a word without quotes, after a backslash or not
abbrev pub plain_len : Bool → List ℕ → ℕ
plain_len escaped [] = 0
plain_len escaped (c ∷ cs) = if not escaped && is_word_end c then 0 else 1 + plain_len (escaped_after escaped c) cs

-- the number of characters up to the quote at the end of a word, and with it
abbrev pub quoted_len : Bool → List ℕ → ℕ
quoted_len escaped [] = 0
quoted_len escaped (c ∷ cs) = if not escaped && (c == quote) then 1 else 1 + quoted_len (escaped_after escaped c) cs

abbrev pub begins_with_quote : List ℕ → Bool
begins_with_quote [] = false
begins_with_quote (c ∷ cs) = c == quote

-- the number of characters of the first word
abbrev pub word_len : List ℕ → ℕ
word_len text = if begins_with_quote text then 1 + quoted_len false (drop 1 text) else plain_len false text

-- the first word of a text, and what is after it
abbrev pub word : List ℕ → List ℕ
word text = take (word_len text) text

abbrev pub after_word : List ℕ → List ℕ
after_word text = drop (word_len text) text

-- a text from its second word on
abbrev pub second_word_on : List ℕ → List ℕ
second_word_on text = after_spaces (after_word text)

-- `*` asks for all types, or all classes: a QTYPE and a QCLASS, and no type or class of a record (RFC 1035, sections 3.2.3 and 3.2.5)
abbrev pub is_asterisk : List ℕ → Bool
is_asterisk (c ∷ []) = c == 42
is_asterisk text = false

-- ---- service parameters

-- A service parameter is a key up to the first `=`, and a word after that (RFC 9460, section 2.1).
abbrev pub param_len : List ℕ → ℕ
param_len [] = 0
param_len (c ∷ cs) = if is_word_end c then 0 else if c == 61 then 1 + word_len cs else 1 + param_len cs

-- the first parameter of a text, and what is after it
abbrev pub param_word : List ℕ → List ℕ
param_word text = take (param_len text) text

abbrev pub after_param : List ℕ → List ℕ
after_param text = drop (param_len text) text

-- ---- ends

-- the text ends, or goes on with white space
abbrev pub is_end : List ℕ → Bool
is_end [] = true
is_end (c ∷ cs) = is_space c

-- all words of a text as one
abbrev pub without_spaces : List ℕ → List ℕ
without_spaces text = filter is_no_space text
