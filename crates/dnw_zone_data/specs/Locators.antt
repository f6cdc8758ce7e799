-- Words that are identifiers of nodes, locators, numbers of nodes and addresses of NSAP.
use Rattle.std.specs.Prelude.{◌≡◌, ℕ, List, ◌∷◌}
use Rattle.dnw_data.specs.Values.{FieldValue, u64, octets}
use Rattle.dnw_zone_values.specs.Locators.{locator_text, IsLocatorText}
use Rattle.dnw_zone_values.specs.Nsap.{nsap_text, IsNsapText}
use Rattle.dnw_zone_values.specs.Numbers.{IsNumberText}

abbrev pub max_u64 : ℕ
max_u64 = 18446744073709551615

-- a word is an identifier of a node, or a locator (RFC 6742, sections 2.1.2 and 2.3.2)
abbrev pub IsLocatorField : List ℕ → FieldValue → Type 0
IsLocatorField text value = (n : ℕ) × IsLocatorText text n × (value ≡ u64 n)

abbrev pub PrintsLocator : ℕ → List ℕ → Type 0
PrintsLocator n text = text ≡ 32 ∷ locator_text n

-- a word is the number of a node (the template IPN of the registry), which is printed in decimal
abbrev pub IsNodeNumber : List ℕ → FieldValue → Type 0
IsNodeNumber text value = (n : ℕ) × IsNumberText max_u64 text n × (value ≡ u64 n)

-- a word is an address of NSAP (RFC 1706, section 5)
abbrev pub IsNsapField : List ℕ → FieldValue → Type 0
IsNsapField text value = (own : List ℕ) × IsNsapText text own × (value ≡ octets own)

abbrev pub PrintsNsap : List ℕ → List ℕ → Type 0
PrintsNsap own text = text ≡ 32 ∷ nsap_text own
