-- Names as text (RFC 1035, section 5.1): labels and a dot after each; `\DDD` with three decimal digits stands for that octet,
-- and `\` and any other character for that character.
use Rattle.std.specs.Prelude.{ℕ, ◌+◌, ◌/◌, ◌%◌, Bool, ◌&&◌, ◌||◌, ◌==◌, nat_le, if◌then◌else◌, List, [], ◌∷◌, ◌++◌, map, flat_map}
use Rattle.std.specs.List.{join_with_byte}
use Rattle.dnw_base.specs.Names.{NameValue}
use Rattle.dnw_name_form.specs.LabelText.{dot, backslash}

-- a character that means something else in a master file: `"`, `$`, `(`, `)`, `.`, `;`, `@` or a backslash
abbrev pub is_special : ℕ → Bool
is_special o = o == 34 || o == 36 || o == 40 || o == 41 || o == dot || o == 59 || o == 64 || o == backslash

-- an octet in decimal, after a backslash
abbrev pub decimal_escape : ℕ → List ℕ
decimal_escape o = backslash ∷ (48 + o / 100) ∷ (48 + o / 10 % 10) ∷ (48 + o % 10) ∷ []

-- An octet of a label: a special character after a backslash, a printable one as it is, any other in decimal.
abbrev pub name_octet : ℕ → List ℕ
name_octet o =
    if is_special o then backslash ∷ o ∷ []
    else if nat_le 33 o && nat_le o 126 then o ∷ []
    else decimal_escape o

abbrev pub label_octets : List ℕ → List ℕ
label_octets label = flat_map name_octet label

-- a dot after each label
abbrev pub labels_text : List (List ℕ) → List ℕ
labels_text labels = flat_map (λ label. label_octets label ++ dot ∷ []) labels

-- a fully qualified name; the root is a dot
abbrev pub full_name_text : List (List ℕ) → List ℕ
full_name_text [] = dot ∷ []
full_name_text (label ∷ labels) = labels_text (label ∷ labels)

-- a relative name: dots between the labels; `@` if there are none
abbrev pub relative_name_text : List (List ℕ) → List ℕ
relative_name_text [] = 64 ∷ []
relative_name_text (label ∷ labels) = join_with_byte dot (map label_octets (label ∷ labels))

abbrev pub text_of_name : NameValue → List ℕ
text_of_name name = if name.is_fqdn then full_name_text name.labels else relative_name_text name.labels
