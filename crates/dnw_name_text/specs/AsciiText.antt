-- Names as text (RFC 1035, section 5.1, but with octal escapes), read from the left by characters.
use Rattle.std.specs.Prelude.{ℕ, ◌+◌, ◌-◌, ◌*◌, Bool, true, false, ◌||◌, ◌&&◌, ◌==◌, nat_le, if◌then◌else◌, Option, Some, None, List, [], ◌∷◌, ◌++◌, map, Result, Ok, Err, IsTrue, encode_utf8}
use Rattle.std.specs.List.{join_with_byte}
use Rattle.std.specs.Char.{is_control, is_whitespace}
use Rattle.ucd_category.specs.declared.GeneralCategory.TheVariants.{DecimalNumber, LetterNumber, OtherNumber}
use Rattle.ucd_category.specs.GeneralCategory.{general_category, general_category_eq}
use Rattle.dnw_base.specs.Fault.{Fault, UnrecognizedChar, IllegalChar, UnfinishedEscape, ◌>>=◌}
use Rattle.dnw_name_form.specs.LabelText.{dot, backslash, is_label_text, label_from_text, label_text}
use Rattle.dnw_base.specs.Names.{NameValue}
use Rattle.dnw_name_form.specs.Edits.{with_label, append_domain}

-- where the next character is: outside an escape, after its backslash, or after one or two of its digits
pub data State : Type 0 where
  Outside : State
  Escaped : State
  AfterOne : (a : ℕ) → State
  AfterTwo : (a b : ℕ) → State

-- what a text is made of: characters of labels, dots that end a label, and the fault at which reading stops
pub data TextElement : Type 0 where
  Char : (char : ℕ) → TextElement
  Dot : TextElement
  Stop : (fault : Fault) → TextElement

-- numeric: of the general category Nd, Nl or No
abbrev pub is_numeric : ℕ → Bool
is_numeric c =
    general_category_eq (general_category c) DecimalNumber || general_category_eq (general_category c) LetterNumber
    || general_category_eq (general_category c) OtherNumber

-- `0` to `7`
abbrev pub is_octal_digit : ℕ → Bool
is_octal_digit c = nat_le 48 c && nat_le c 55

-- why a character is not the second or third digit of an escape
abbrev pub bad_digit : ℕ → Fault
bad_digit c = if is_numeric c then IllegalChar c else UnrecognizedChar c

abbrev pub elements : State → List ℕ → List TextElement
elements Outside [] = []
elements Outside (c ∷ cs) =
    if c == dot then Dot ∷ elements Outside cs
    else if c == backslash then elements Escaped cs
    else if is_control c || is_whitespace c then Stop (UnrecognizedChar c) ∷ []
    else Char c ∷ elements Outside cs
elements Escaped [] = Stop UnfinishedEscape ∷ []
elements Escaped (c ∷ cs) =
    if is_octal_digit c then elements (AfterOne (c - 48)) cs
    else if is_numeric c then Stop (IllegalChar c) ∷ []
    else Char c ∷ elements Outside cs
elements (AfterOne a) [] = Stop UnfinishedEscape ∷ []
elements (AfterOne a) (c ∷ cs) =
    if is_octal_digit c then elements (AfterTwo a (c - 48)) cs else Stop (bad_digit c) ∷ []
elements (AfterTwo a b) [] = Stop UnfinishedEscape ∷ []
elements (AfterTwo a b) (c ∷ cs) =
    if is_octal_digit c then Char (64 * a + 8 * b + (c - 48)) ∷ elements Outside cs else Stop (bad_digit c) ∷ []

-- the labels with the one that the text (its bytes in UTF-8) gives
abbrev pub with_text : List (List ℕ) → List ℕ → Result (List (List ℕ)) Fault
with_text ls text = do
  l ← label_from_text text
  with_label ls l

-- The name that the elements give after the labels so far and the text collected for the next one. It is fully
-- qualified if the last element is a dot.
abbrev pub name_from_elements : List (List ℕ) → List ℕ → List TextElement → Result NameValue Fault
name_from_elements ls [] [] = Ok (record { is_fqdn = true; labels = ls })
name_from_elements ls (b ∷ bs) [] = do
  all ← with_text ls (b ∷ bs)
  Ok (record { is_fqdn = false; labels = all })
name_from_elements ls text (Char c ∷ es) = name_from_elements ls (text ++ encode_utf8 c) es
name_from_elements ls text (Dot ∷ es) = with_text ls text >>= (λ longer. name_from_elements longer [] es)
name_from_elements ls text (Stop fault ∷ es) = Err fault

-- The name that a text (its characters) gives. A lone dot is the root, and the empty text the relative name without
-- labels.
abbrev pub name_from_text : List ℕ → Result NameValue Fault
name_from_text [] = Ok (record { is_fqdn = false; labels = [] })
name_from_text (c ∷ []) =
    if c == dot then Ok (record { is_fqdn = true; labels = [] })
    else name_from_elements [] [] (elements Outside (c ∷ []))
name_from_text (c ∷ d ∷ cs) = name_from_elements [] [] (elements Outside (c ∷ d ∷ cs))

-- a relative name is completed by the origin, if there is one
abbrev pub completed : Option NameValue → NameValue → Result NameValue Fault
completed None n = Ok n
completed (Some origin) n = if n.is_fqdn then Ok n else append_domain n origin

abbrev pub name_from_text_at : List ℕ → Option NameValue → Result NameValue Fault
name_from_text_at text origin = name_from_text text >>= completed origin

-- The most octets of a name's text. A name of 255 octets has four labels or more, and so at most 250 octets in them. Each may
-- become four, and a dot is after each label. More labels take more length octets, so their text is shorter.
abbrev pub max_text : ℕ
max_text = 1004

-- A name as text: its labels as text joined by dots, and a last dot if it is fully qualified.
abbrev pub name_text : NameValue → List ℕ
name_text n = join_with_byte dot (map label_text n.labels) ++ (if n.is_fqdn then dot ∷ [] else [])

-- a label that stands for itself as text
abbrev pub IsLabelText : List ℕ → Type 0
IsLabelText l = IsTrue (is_label_text l)
