-- Labels as text: which texts give a label (RFC 952 and RFC 1035, section 2.3.1, with the underscore of RFC 2782, the
-- asterisk of RFC 4592 and dots), and how any label is written (RFC 1035, section 5.1, but with octal escapes).
use Rattle.std.specs.Prelude.{ℕ, ◌+◌, ◌/◌, ◌%◌, Bool, true, false, not, ◌&&◌, ◌||◌, ◌==◌, nat_lt, if◌then◌else◌, List, [], ◌∷◌, ◌++◌, length, Result, Ok, Err}
use Rattle.std.specs.List.{list_all, flat_map}
use Rattle.std.specs.Char.{is_ascii_alphanumeric, is_ascii_graphic}
use Rattle.dnw_base.specs.Limits.{max_label}
use Rattle.dnw_base.specs.Labels.{asterisk}
use Rattle.dnw_base.specs.Fault.{Fault, LabelTooLong, MalformedLabel, EmptyLabel}

-- the characters of the rules
abbrev pub dash : ℕ
dash = 45

abbrev pub dot : ℕ
dot = 46

abbrev pub backslash : ℕ
backslash = 92

abbrev pub underscore : ℕ
underscore = 95

abbrev pub is_safe : ℕ → Bool
is_safe c = is_ascii_alphanumeric c || c == underscore

-- which characters a label's text may begin with, and which may follow: none past ASCII
abbrev pub may_begin : ℕ → Bool
may_begin c = is_safe c || c == asterisk || c == dot

abbrev pub may_follow : ℕ → Bool
may_follow c = is_safe c || c == dash || c == dot

abbrev pub is_label_text : List ℕ → Bool
is_label_text [] = false
is_label_text (c ∷ cs) = may_begin c && list_all may_follow cs

-- the label that a text (its bytes in UTF-8) gives
abbrev pub label_from_text : List ℕ → Result (List ℕ) Fault
label_from_text text =
    if nat_lt max_label (length text) then Err (LabelTooLong (length text))
    else if is_label_text text then Ok text else Err (MalformedLabel text)

-- the label that bytes give
abbrev pub label_from_bytes : List ℕ → Result (List ℕ) Fault
label_from_bytes bytes =
    if length bytes == 0 then Err EmptyLabel
    else if nat_lt max_label (length bytes) then Err (LabelTooLong (length bytes)) else Ok bytes

-- the digits of an octal escape begin at `0`
abbrev pub octal_escape : ℕ → List ℕ
octal_escape b = backslash ∷ (48 + b / 64) ∷ (48 + b / 8 % 8) ∷ (48 + b % 8) ∷ []

-- written as it is: safe, a dash that is not the first byte, an asterisk that is
abbrev pub is_plain : Bool → ℕ → Bool
is_plain first b = is_safe b || (b == dash && not first) || (b == asterisk && first)

abbrev pub byte_text : Bool → ℕ → List ℕ
byte_text first b =
    if is_plain first b then b ∷ []
    else if is_ascii_graphic b then backslash ∷ b ∷ [] else octal_escape b

-- a label as text
abbrev pub label_text : List ℕ → List ℕ
label_text [] = []
label_text (b ∷ bs) = byte_text true b ++ flat_map (byte_text false) bs
