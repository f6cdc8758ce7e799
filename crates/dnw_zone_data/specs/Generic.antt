-- The form that any data have (RFC 3597, section 5): `\#`, the number of octets, and the octets in hexadecimal.
use Rattle.std.specs.Prelude.{◌≡◌, ◌≤◌, ℕ, ◌-◌, ◌⊎◌, ◌&&◌, Bool, true, not, if◌then◌else◌, List, [], ◌∷◌, ◌++◌, length, codes, decimal}
use Rattle.dnw_zone_values.specs.Octets.{hex_text, IsHexText}
use Rattle.dnw_zone_values.specs.Numbers.{IsNumberText}
use Rattle.dnw_zone_data.specs.declared.error.DataTextError.{DataTextError}
use Rattle.dnw_zone_data.specs.declared.error.DataTextError.TheVariants.{Memory}
use Rattle.dnw_zone_data.specs.declared.error.Wanted.TheVariants.{Size, Octets}
use Rattle.dnw_zone_data.specs.Words.{after_spaces, word, after_word, is_space, without_spaces}
use Rattle.dnw_zone_data.specs.Faults.{fault}
use Rattle.dnw_base.specs.Limits.{max_data}

-- the word that the form begins with
abbrev pub generic_mark : List ℕ
generic_mark = codes "\\#"

-- no word for no octets
abbrev pub hex_part : List ℕ → List ℕ
hex_part [] = []
hex_part (o ∷ octets) = 32 ∷ hex_text (o ∷ octets)

abbrev pub generic_text : List ℕ → List ℕ
generic_text octets = generic_mark ++ 32 ∷ decimal (length octets) ++ hex_part octets

-- a word is this number of octets
abbrev pub IsSize : List ℕ → ℕ → Type 0
IsSize size n = IsNumberText max_data size n

-- each word has an even number of digits (RFC 3597, section 5), after an even number of them or not
abbrev pub has_even_words : Bool → List ℕ → Bool
has_even_words even [] = even
has_even_words even (c ∷ cs) = if is_space c then even && has_even_words true cs else has_even_words (not even) cs

-- words are so many octets in hexadecimal
abbrev pub AreHexWords : ℕ → List ℕ → List ℕ → Type 0
AreHexWords n words octets = IsHexText (without_spaces words) octets × (length octets ≡ n) × (has_even_words true words ≡ true)

-- what is after the number
abbrev pub hex_words : List ℕ → List ℕ
hex_words left = after_spaces (after_word (after_spaces left))

-- after `\#` is the number of these octets, and then they are
abbrev pub IsSized : List ℕ → List ℕ → Type 0
IsSized left octets = (n : ℕ) × IsSize (word (after_spaces left)) n × AreHexWords n (hex_words left) octets

-- the text is these octets
abbrev pub IsGeneric : List ℕ → List ℕ → Type 0
IsGeneric text octets = (word (after_spaces text) ≡ generic_mark) × IsSized (after_word (after_spaces text)) octets

-- why no octets are there, in a text of this length: no number, not so many octets, or no memory for the words of some
abbrev pub FailsSized : ℕ → List ℕ → DataTextError → Type 0
FailsSized len left e =
    let size = after_spaces left in
    let words = hex_words left in
    (((n : ℕ) → ¬ (IsSize (word size) n)) × (e ≡ fault 0 (len - length size) Size))
    ⊎ ((n : ℕ) × IsSize (word size) n × ((octets : List ℕ) → ¬ (AreHexWords n words octets)) × (e ≡ fault 1 (len - length words) (Octets n)))
    ⊎ ((n : ℕ) × IsSize (word size) n × (1 ≤ length words) × (e ≡ Memory))
