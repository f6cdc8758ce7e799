-- What follows from the definitions of locations. Each is the clause of a public function, and so proved.
use Rattle.std.specs.Prelude.{◌≡◌, ℕ, List}
use Rattle.dnw_zone_values.specs.Octets.{IsOctets}
use Rattle.dnw_zone_values.specs.Locations.{location_at, location_wire, location_words, words_text, AreLocationWords, PrintsLocation}

-- A text that is printed of octets is words that are read as a location, whose octets are the same.
abbrev pub LocationsComeBack : Type 0
LocationsComeBack = (own text : List ℕ) → IsOctets own → PrintsLocation own text
    → (text ≡ words_text (location_words (location_at own))) × AreLocationWords (location_words (location_at own)) (location_at own)
    × (location_wire (location_at own) ≡ own)
