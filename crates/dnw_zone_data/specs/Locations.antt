-- Words of a text as a location (RFC 1876, section 3), and its text.
use Rattle.std.specs.Prelude.{◌≡◌, ◌≢◌, ℕ, List, [], ◌∷◌}
use Rattle.dnw_data.specs.declared.kind.Shape.TheVariants as shapes
use Rattle.dnw_data.specs.Values.{FieldValue, shaped}
use Rattle.dnw_zone_values.specs.declared.location.Location.{Location}
use Rattle.dnw_zone_values.specs.Locations.{AreLocationWords, location_wire}
use Rattle.dnw_zone_data.specs.Words.{after_spaces, word, after_word}

-- the words of a text are these
abbrev pub AreWords : List ℕ → List (List ℕ) → Type 0
AreWords left [] = after_spaces left ≡ []
AreWords left (w ∷ words) = (after_spaces left ≢ []) × (word (after_spaces left) ≡ w) × AreWords (after_word (after_spaces left)) words

-- all words are a location, and these are its octets
abbrev pub AreLocation : List ℕ → FieldValue → Type 0
AreLocation left value =
    (words : List (List ℕ)) × (l : Location) × AreWords left words × AreLocationWords words l
    × (value ≡ shaped (record { shape = shapes.Location; octets = location_wire l }))
