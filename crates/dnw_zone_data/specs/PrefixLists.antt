-- Lists of address prefixes (RFC 3123, sections 4 and 5), each a word. There may be none.
use Rattle.std.specs.Prelude.{ℕ, zero, suc, ◌≡◌, ◌≢◌, ◌+◌, ◌%◌, nat_le, if◌then◌else◌, List, [], ◌∷◌, ◌++◌, length, take, drop, slice_index, flat_map, Option, Some, None}
use Rattle.dnw_data.specs.declared.kind.ListKind.TheVariants as lists
use Rattle.dnw_data.specs.Values.{FieldValue, prefixes, items}
use Rattle.dnw_zone_values.specs.Prefixes.{prefix_text, IsPrefixText}
use Rattle.dnw_zone_data.specs.Words.{after_spaces, word, after_word}

-- ---- printing

-- how many octets the first prefix has: four, and those of its address
abbrev pub first_prefix_size : List ℕ → ℕ
first_prefix_size octets = 4 + slice_index octets 3 % 128

-- a text after a space, and others after it, if there are both
abbrev pub spaced_before : Option (List ℕ) → Option (List ℕ) → Option (List ℕ)
spaced_before (Some text) (Some others) = Some (32 ∷ text ++ others)
spaced_before text others = None

-- the texts of at most n prefixes, each after a space, if the octets are prefixes that have a text
abbrev pub prefixes_within : ℕ → List ℕ → Option (List ℕ)
prefixes_within n [] = Some []
prefixes_within zero (o ∷ octets) = None
prefixes_within (suc n) (o ∷ octets) =
    let all = o ∷ octets in
    if nat_le (first_prefix_size all) (length all)
    then spaced_before (prefix_text (take (first_prefix_size all) all)) (prefixes_within n (drop (first_prefix_size all) all))
    else None

-- The text is that of the prefixes, each after a space.
abbrev pub PrintsPrefixes : List ℕ → List ℕ → Type 0
PrintsPrefixes own text = prefixes_within (length own) own ≡ Some text

-- ---- parsing

-- the words of a text are prefixes of these octets
abbrev pub ArePrefixWords : List ℕ → List (List ℕ) → Type 0
ArePrefixWords left [] = after_spaces left ≡ []
ArePrefixWords left (own ∷ others) =
    (after_spaces left ≢ []) × IsPrefixText (word (after_spaces left)) own × ArePrefixWords (after_word (after_spaces left)) others

-- the words of a text are prefixes, one after another; there may be none
abbrev pub ArePrefixes : List ℕ → FieldValue → Type 0
ArePrefixes left value =
    (listed : List (List ℕ)) × ArePrefixWords left listed × (value ≡ prefixes (items lists.Prefixes (flat_map (λ own. own) listed)))
