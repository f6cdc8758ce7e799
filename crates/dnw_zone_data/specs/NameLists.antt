-- Lists of names as text, each a word, none or more (RFC 8005, section 6).
use Rattle.std.specs.Prelude.{◌≡◌, ◌≢◌, ℕ, Option, Some, List, [], ◌∷◌, flat_map}
use Rattle.std.specs.List.{AllByRecursion}
use Rattle.dnw_base.specs.Names.{AreLabels, NameValue, wire}
use Rattle.dnw_data.specs.declared.kind.ListKind.TheVariants as lists
use Rattle.dnw_data.specs.Values.{FieldValue, names, items}
use Rattle.dnw_name_text.specs.NameTexts.{full_name_text}
use Rattle.dnw_zone_data.specs.NameReading.{named_at}
use Rattle.dnw_zone_data.specs.Words.{after_spaces, word, after_word}

-- names, each after a space
abbrev pub names_text : List (List (List ℕ)) → List ℕ
names_text listed = flat_map (λ labels. 32 ∷ full_name_text labels) listed

-- The text is that of the names that octets are, none of which is compressed.
abbrev pub PrintsNames : List ℕ → List ℕ → Type 0
PrintsNames own text = (listed : List (List (List ℕ))) × AllByRecursion AreLabels listed × (own ≡ flat_map wire listed) × (text ≡ names_text listed)

-- the words of a text are these names, completed by the origin
abbrev pub AreNameWords : Option NameValue → List ℕ → List (List (List ℕ)) → Type 0
AreNameWords origin left [] = after_spaces left ≡ []
AreNameWords origin left (labels ∷ listed) =
    (after_spaces left ≢ []) × (named_at origin (word (after_spaces left)) ≡ Some labels) × AreNameWords origin (after_word (after_spaces left)) listed

-- the words of a text are names, and these are their octets; there may be none
abbrev pub AreListedNames : Option NameValue → List ℕ → FieldValue → Type 0
AreListedNames origin left value =
    (listed : List (List (List ℕ))) × AreNameWords origin left listed × (value ≡ names (items lists.Names (flat_map wire listed)))
