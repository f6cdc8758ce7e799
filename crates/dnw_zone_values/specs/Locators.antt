-- Identifiers of nodes, and locators, of 64 bits (RFC 6742, sections 2.1.2 and 2.3.2): four groups of hexadecimal digits with colons
-- between them. A group is parsed of one to four digits in either case, and printed of four in lower case, as the RFC has it.
use Rattle.std.specs.Prelude.{ℕ, ◌≡◌, ◌≤◌, ◌+◌, ◌*◌, ◌/◌, ◌%◌, List, [], ◌∷◌, ◌++◌, length}
use Rattle.std.specs.Str.Parse.{IsNumeral, digits_value}
use Rattle.dnw_zone_values.specs.Pairs.{lower_digit}
use Rattle.dnw_zone_values.specs.Prefixes.{colon, before, after}

-- one to four hexadecimal digits write this number
abbrev pub IsGroupText : List ℕ → ℕ → Type 0
IsGroupText text n = IsNumeral 16 text × (length text ≤ 4) × (digits_value 16 text ≡ n)

-- the number of four groups, of 16 bits each
abbrev pub locator_of : ℕ → ℕ → ℕ → ℕ → ℕ
locator_of a b c d = ((a * 65536 + b) * 65536 + c) * 65536 + d

abbrev pub AreGroups : List ℕ → List ℕ → List ℕ → List ℕ → ℕ → Type 0
AreGroups first second third fourth n =
    (a : ℕ) × (b : ℕ) × (c : ℕ) × (d : ℕ) × IsGroupText first a × IsGroupText second b × IsGroupText third c × IsGroupText fourth d
    × (n ≡ locator_of a b c d)

-- the text is this number
abbrev pub IsLocatorText : List ℕ → ℕ → Type 0
IsLocatorText text n =
    let second = after colon text in
    let third = after colon second in
    AreGroups (before colon text) (before colon second) (before colon third) (after colon third) n

-- a number of 16 bits in four digits
abbrev pub group_text : ℕ → List ℕ
group_text n = lower_digit (n / 4096) ∷ lower_digit (n / 256 % 16) ∷ lower_digit (n / 16 % 16) ∷ lower_digit (n % 16) ∷ []

abbrev pub locator_text : ℕ → List ℕ
locator_text n =
    group_text (n / 281474976710656) ++ colon ∷ group_text (n / 4294967296 % 65536) ++ colon ∷ group_text (n / 65536 % 65536)
    ++ colon ∷ group_text (n % 65536)
