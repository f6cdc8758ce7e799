-- Which fully qualified names texts give in data (RFC 1035, section 5.1).
use Rattle.std.specs.Prelude.{◌≡◌, ℕ, Bool, true, false, if◌then◌else◌, List, ◌++◌, Option, Some, None, Ok, Err}
use Rattle.dnw_base.specs.Names.{AreLabels, NameValue, wire}
use Rattle.dnw_name_text.specs.NameReading.{Parsed, name_of_text, origin_labels}
use Rattle.dnw_zone_data.specs.Words.{begins_with_quote}

-- the labels, if the name is fully qualified
abbrev pub qualified_labels : Parsed NameValue → Option (List (List ℕ))
qualified_labels (Ok name) = if name.is_fqdn then Some name.labels else None
qualified_labels (Err error) = None

-- the labels of the fully qualified name that a word gives with an origin, if any; a word in quotes is no name
abbrev pub named_at : Option NameValue → List ℕ → Option (List (List ℕ))
named_at origin text = if begins_with_quote text then None else qualified_labels (name_of_text (origin_labels origin) text)

-- The octets are the wire form of the name that a word gives, whatever the origin is.
abbrev pub IsNamedInFull : List ℕ → List ℕ → Type 0
IsNamedInFull text octets =
    (labels : List (List ℕ)) × AreLabels labels × (octets ≡ wire labels) × ((origin : Option NameValue) → named_at origin text ≡ Some labels)

-- The wire form of the name is appended; or there is none, and nothing is.
abbrev pub AppendsName : Option (List (List ℕ)) → List ℕ → List ℕ → Bool → Type 0
AppendsName named old new true = (labels : List (List ℕ)) × (named ≡ Some labels) × (new ≡ old ++ wire labels)
AppendsName named old new false = (named ≡ None) × (new ≡ old)
