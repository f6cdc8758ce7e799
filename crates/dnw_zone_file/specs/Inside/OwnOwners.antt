-- Owners that words are, by their wire forms.
use Rattle.std.specs.Prelude.{◌≡◌, ℕ, List, Some}
use Rattle.dnw_base.specs.Names.{AreLabels, NameValue, wire}
use Rattle.dnw_zone_data.specs.NameReading.{named_at}

-- The octets are the wire form of the name that a word gives with an origin.
abbrev pub IsNamed : NameValue → List ℕ → List ℕ → Type 0
IsNamed origin word octets =
    (labels : List (List ℕ)) × AreLabels labels × (octets ≡ wire labels) × (named_at (Some origin) word ≡ Some labels)
