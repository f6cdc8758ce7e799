-- Character strings up to the end of data, one or more (RFC 1035, section 3.3.14), each a word. Their octets are no more than data may
-- have, which their number says (section 3.2.1).
use Rattle.std.specs.Prelude.{ℕ, ◌≡◌, ◌≢◌, ◌≤◌, ◌<◌, ◌⊎◌, List, [], ◌∷◌, length, flat_map, ⊤}
use Rattle.dnw_base.specs.Limits.{max_data}
use Rattle.dnw_base.specs.Names.{label_wire}
use Rattle.dnw_data.specs.declared.kind.ListKind.TheVariants as lists
use Rattle.dnw_data.specs.Values.{FieldValue, texts, items}
use Rattle.dnw_zone_values.specs.Strings.{IsStringText}
use Rattle.dnw_zone_data.specs.declared.error.Wanted.{Wanted}
use Rattle.dnw_zone_data.specs.declared.error.Wanted.TheVariants.{FewerOctets, Strings}
use Rattle.dnw_zone_data.specs.Words.{after_spaces, word, after_word}

-- the words of a text are these strings
abbrev pub AreStringWords : List ℕ → List (List ℕ) → Type 0
AreStringWords left [] = after_spaces left ≡ []
AreStringWords left (string ∷ strings) =
    (after_spaces left ≢ []) × IsStringText (word (after_spaces left)) string
    × AreStringWords (after_word (after_spaces left)) strings

-- the octets of strings, each after its length octet
abbrev pub strings_wire : List (List ℕ) → List ℕ
strings_wire strings = flat_map label_wire strings

-- one string or more
abbrev pub AreTexts : List ℕ → FieldValue → Type 0
AreTexts left value =
    (first : List ℕ) × (others : List (List ℕ)) × AreStringWords left (first ∷ others) × (length (strings_wire (first ∷ others)) ≤ max_data)
    × (value ≡ texts (items lists.Texts (strings_wire (first ∷ others))))

-- the first words of a text are these strings
abbrev pub BeginWithStrings : List ℕ → List (List ℕ) → Type 0
BeginWithStrings left [] = ⊤
BeginWithStrings left (string ∷ strings) =
    (after_spaces left ≢ []) × IsStringText (word (after_spaces left)) string × BeginWithStrings (after_word (after_spaces left)) strings

-- the first words of a text are strings with more octets than data may have, whatever comes after them
abbrev pub AreTooMany : List ℕ → Type 0
AreTooMany left = (strings : List (List ℕ)) × BeginWithStrings left strings × (max_data < length (strings_wire strings))

-- what is wanted in place of a text that is no field of strings
abbrev pub IsTextsWanted : List ℕ → Wanted → Type 0
IsTextsWanted left w = (AreTooMany left × (w ≡ FewerOctets)) ⊎ ((¬ (AreTooMany left)) × (w ≡ Strings))
