-- What a template of `$GENERATE` makes for a number (the BIND 9 Administrator Reference Manual, "The $GENERATE Directive"; no RFC has it).
-- `$` stands for the number, and `${offset,width,base}` for its sum with the offset, in a base, with zeros before it up to the width. `\$`
-- and `$$` stand for a dollar sign. All other octets and escapes are kept.
use Rattle.std.specs.Prelude.{ℕ, suc, zero, ◌+◌, ◌-◌, ◌*◌, ◌/◌, ◌^◌, ◌==◌, ◌&&◌, nat_le, Bool, true, false, if◌then◌else◌, List, [], ◌∷◌, ◌++◌, length, take, drop, replicate, reverse, max, Option, Some, None}
use Rattle.std.specs.Char.{is_ascii_digit}
use Rattle.std.specs.Fmt.{digits}
use Rattle.dnw_zone_file.specs.declared.template.Base.{Base}
use Rattle.dnw_zone_file.specs.declared.template.Base.TheVariants.{Decimal, Octal, LowerHexadecimal, UpperHexadecimal, LowerNibbles, UpperNibbles}
use Rattle.dnw_zone_file.specs.declared.template.Modifier.{Modifier}
use Rattle.dnw_zone_file.specs.declared.template.Offset.{Offset}

-- ---- numbers that are read

-- the greatest number that is read, and the greatest width
abbrev pub max_number : ℕ
max_number = 2147483647

abbrev pub max_width : ℕ
max_width = 127

abbrev pub fits_digit : ℕ → ℕ → Bool
fits_digit n c = is_ascii_digit c && nat_le (10 * n + (c - 48)) max_number

-- the number that digits write after those of n
abbrev pub number_after : ℕ → List ℕ → Option ℕ
number_after n [] = Some n
number_after n (c ∷ cs) = if fits_digit n c then number_after (10 * n + (c - 48)) cs else None

abbrev pub digits_number : List ℕ → Option ℕ
digits_number text = if length text == 0 then None else number_after 0 text

-- ---- parts of texts

-- how many octets are before the first of these, the text before it, and the text from it on
abbrev pub len_before : ℕ → List ℕ → ℕ
len_before octet [] = 0
len_before octet (c ∷ cs) = if c == octet then 0 else 1 + len_before octet cs

abbrev pub text_before : ℕ → List ℕ → List ℕ
text_before octet text = take (len_before octet text) text

abbrev pub text_from : ℕ → List ℕ → List ℕ
text_from octet text = drop (len_before octet text) text

-- ---- modifiers

-- a number, maybe after a sign
abbrev pub plus_offset : Option ℕ → Option Offset
plus_offset (Some n) = Some (record { is_negative = false; size = n })
plus_offset None = None

abbrev pub minus_offset : Option ℕ → Option Offset
minus_offset (Some n) = Some (record { is_negative = true; size = n })
minus_offset None = None

abbrev pub offset_of : List ℕ → Option Offset
offset_of [] = None
offset_of (c ∷ cs) = if c == 45 then minus_offset (digits_number cs) else if c == 43 then plus_offset (digits_number cs) else plus_offset (digits_number (c ∷ cs))

-- a number that is no greater than the greatest width
abbrev pub as_width : Option ℕ → Option ℕ
as_width (Some n) = if nat_le n max_width then Some n else None
as_width None = None

-- `d`, `o`, `x`, `X`, `n` and `N`
abbrev pub base_by_letter : ℕ → Option Base
base_by_letter c =
    if c == 100 then Some Decimal
    else if c == 111 then Some Octal
    else if c == 120 then Some LowerHexadecimal
    else if c == 88 then Some UpperHexadecimal
    else if c == 110 then Some LowerNibbles
    else if c == 78 then Some UpperNibbles
    else None

abbrev pub base_of : List ℕ → Option Base
base_of (c ∷ []) = base_by_letter c
base_of text = None

-- the parts of a modifier: without a width it is 0, and without a base the number is decimal
abbrev pub with_parts : Option Offset → Option ℕ → Option Base → Option Modifier
with_parts (Some offset) (Some width) (Some base) = Some (record { offset = offset; width = width; base = base })
with_parts offset width base = None

abbrev pub base_after : List ℕ → Option Base
base_after [] = Some Decimal
base_after (comma ∷ text) = base_of text

abbrev pub modifier_from : Option Offset → List ℕ → Option Modifier
modifier_from offset [] = with_parts offset (Some 0) (Some Decimal)
modifier_from offset (comma ∷ text) = with_parts offset (as_width (digits_number (text_before 44 text))) (base_after (text_from 44 text))

-- what is in the braces of a modifier
abbrev pub modifier_of : List ℕ → Option Modifier
modifier_of text = modifier_from (offset_of (text_before 44 text)) (text_from 44 text)

-- ---- numbers that are written

-- a number less another
abbrev pub offset_from : ℕ → ℕ → Offset
offset_from n size =
    if nat_le size n then record { is_negative = false; size = n - size } else record { is_negative = true; size = size - n }

-- The sum of a number and an offset, of 31 bits and a sign at most.
abbrev pub sum_with : ℕ → Offset → Option Offset
sum_with n offset =
    if offset.is_negative then Some (offset_from n offset.size)
    else if nat_le (n + offset.size) max_number then Some (record { is_negative = false; size = n + offset.size })
    else None

-- a number of 32 bits that is the same but for its sign: a negative one is its two's complement
abbrev pub as_unsigned : Offset → ℕ
as_unsigned n = if n.is_negative then 2 ^ 32 - n.size else n.size

abbrev pub zero_padded : ℕ → List ℕ → List ℕ
zero_padded width text = replicate (width - length text) 48 ++ text

abbrev pub decimal_text : ℕ → Offset → List ℕ
decimal_text width n = if n.is_negative then 45 ∷ zero_padded (width - 1) (digits 10 false n.size) else zero_padded width (digits 10 false n.size)

-- each digit with a dot after it
abbrev pub dotted : List ℕ → List ℕ
dotted [] = []
dotted (c ∷ cs) = c ∷ 46 ∷ dotted cs

-- hexadecimal digits as labels, the last one first; the width counts the dots, and the last dot is there if the width has it
abbrev pub nibbles_text : ℕ → List ℕ → List ℕ
nibbles_text width text =
    let labels = dotted (reverse text ++ replicate ((width + 1) / 2 - length text) 48) in take (max width (length labels - 1)) labels

abbrev pub number_in : Base → ℕ → Offset → List ℕ
number_in Decimal width n = decimal_text width n
number_in Octal width n = zero_padded width (digits 8 false (as_unsigned n))
number_in LowerHexadecimal width n = zero_padded width (digits 16 false (as_unsigned n))
number_in UpperHexadecimal width n = zero_padded width (digits 16 true (as_unsigned n))
number_in LowerNibbles width n = nibbles_text width (digits 16 false (as_unsigned n))
number_in UpperNibbles width n = nibbles_text width (digits 16 true (as_unsigned n))

-- ---- templates

abbrev pub number_if : Base → ℕ → Option Offset → Option (List ℕ)
number_if base width (Some n) = Some (number_in base width n)
number_if base width None = None

abbrev pub modified : ℕ → Option Modifier → Option (List ℕ)
modified n (Some modifier) = number_if modifier.base modifier.width (sum_with n modifier.offset)
modified n None = None

-- what `$` and this after it stand for: `$` for a dollar sign, and `{` begins a modifier, which ends with `}`
abbrev pub braced : ℕ → List ℕ → List ℕ → Option (List ℕ)
braced n inner [] = None
braced n inner (brace ∷ rest) = modified n (modifier_of inner)

abbrev pub dollar_text : ℕ → List ℕ → Option (List ℕ)
dollar_text n [] = Some (digits 10 false n)
dollar_text n (c ∷ cs) =
    if c == 36 then Some (92 ∷ 36 ∷ []) else if c == 123 then braced n (text_before 125 cs) (text_from 125 cs) else Some (digits 10 false n)

abbrev pub dollar_len : List ℕ → ℕ
dollar_len [] = 0
dollar_len (c ∷ cs) = if c == 36 then 1 else if c == 123 then 2 + len_before 125 cs else 0

-- An escape is kept, but that of a quote in a quoted string, which is a quote.
abbrev pub kept_escape : Bool → List ℕ → List ℕ
kept_escape quoted [] = 92 ∷ []
kept_escape quoted (c ∷ cs) = if quoted && (c == 34) then 34 ∷ [] else 92 ∷ c ∷ []

-- what an octet of a template and those after it stand for, and how many of these belong to it
abbrev pub piece_text : ℕ → Bool → ℕ → List ℕ → Option (List ℕ)
piece_text n quoted c cs = if c == 92 then Some (kept_escape quoted cs) else if c == 36 then dollar_text n cs else Some (c ∷ [])

abbrev pub piece_len : ℕ → List ℕ → ℕ
piece_len c cs = if c == 92 then 1 else if c == 36 then dollar_len cs else 0

abbrev pub both_texts : Option (List ℕ) → Option (List ℕ) → Option (List ℕ)
both_texts None rest = None
both_texts (Some first) None = None
both_texts (Some first) (Some rest) = Some (first ++ rest)

-- what a template makes for a number after so many octets, which belong to what is before them
abbrev pub made_after : ℕ → Bool → ℕ → List ℕ → Option (List ℕ)
made_after n quoted skipped [] = Some []
made_after n quoted (suc skipped) (c ∷ cs) = made_after n quoted skipped cs
made_after n quoted zero (c ∷ cs) = both_texts (piece_text n quoted c cs) (made_after n quoted (piece_len c cs) cs)

-- what a template makes for a number, in a quoted string or not
abbrev pub made_text : ℕ → Bool → List ℕ → Option (List ℕ)
made_text n quoted template = made_after n quoted 0 template
