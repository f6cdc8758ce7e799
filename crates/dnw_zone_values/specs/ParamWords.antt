-- Which word is which parameter (RFC 9460, section 2.1 and appendix A): a key, and after a `=` a value, which is written as a
-- character string is, but of any length.
use Rattle.std.specs.Prelude.{ℕ, Bool, nat_lt, ◌≡◌, ◌≤◌, ◌==◌, ◌⊎◌, if◌then◌else◌, List, [], ◌∷◌, length, flat_map, Option, Some, None}
use Rattle.std.specs.List.{before_first, after_first, position_or_len}
use Rattle.std.specs.Int.{w16, from_be_bytes, to_be_bytes}
use Rattle.std.specs.Str.{IsUtf8}
use Rattle.dnw_zone_values.specs.Numbers.{max_u16, IsNumberText}
use Rattle.dnw_zone_values.specs.Octets.{IsBase64Text}
use Rattle.dnw_zone_values.specs.Strings.{IsLongText}
use Rattle.dnw_zone_values.specs.declared.keys.Form.{Form}
use Rattle.dnw_zone_values.specs.declared.keys.Form.TheVariants as forms
use Rattle.dnw_zone_values.specs.declared.lists.ListValue.TheVariants.{Keys, Protocols, Ipv4, Ipv6}
use Rattle.dnw_zone_values.specs.ParamKeys.{named_form, named_key, IsGenericKey}
use Rattle.dnw_zone_values.specs.ParamValues.{IsListText}
use Rattle.dnw_zone_values.specs.Params.{ParamValue, in_key_order}
use Rattle.dnw_zone_values.specs.ParamTexts.{equals, max_value}

-- the text before the first `=`, and that after it, if there is one
abbrev pub is_equals : ℕ → Bool
is_equals c = c == equals

abbrev pub key_part : List ℕ → List ℕ
key_part text = before_first is_equals text

abbrev pub value_part : List ℕ → Option (List ℕ)
value_part text = if nat_lt (position_or_len is_equals text) (length text) then Some (after_first is_equals text) else None

-- the octets that the value writes; without one there are none
abbrev pub IsValueText : Option (List ℕ) → List ℕ → Type 0
IsValueText None own = own ≡ []
IsValueText (Some text) own = IsLongText text own

-- there is a value of one character or more
abbrev pub HasValue : Option (List ℕ) → Type 0
HasValue None = ⊥
HasValue (Some text) = 1 ≤ length text

-- two octets each as a key
abbrev pub keys_of : List ℕ → List ParamValue
keys_of (a ∷ b ∷ octets) = record { key = from_be_bytes w16 (a ∷ b ∷ []); octets = [] } ∷ keys_of octets
keys_of octets = []

abbrev pub keys_wire : List ParamValue → List ℕ
keys_wire keys = flat_map (λ p. to_be_bytes w16 p.key) keys

-- a list of keys, in any order, and none twice
abbrev pub AreMandatory : List ℕ → List ℕ → Type 0
AreMandatory value own =
    (listed : List ℕ) × (keys : List ParamValue) × IsListText Keys value listed × (in_key_order [] (keys_of listed) ≡ Some keys) × (own ≡ keys_wire keys)

-- the octets are what a value of this form stands for (RFC 9460, sections 7 and 8; RFC 9848 for ech; RFC 9461, section 5,
-- for dohpath; RFC 9540, section 4, for ohttp)
abbrev pub IsOwnValue : Form → List ℕ → List ℕ → Type 0
IsOwnValue forms.Mandatory value own = AreMandatory value own
IsOwnValue forms.Protocols value own = IsListText Protocols value own
IsOwnValue forms.Nothing value own = (value ≡ []) × (own ≡ [])
IsOwnValue forms.Port value own = (n : ℕ) × IsUtf8 value × IsNumberText max_u16 value n × (own ≡ to_be_bytes w16 n)
IsOwnValue forms.Ipv4 value own = IsListText Ipv4 value own
IsOwnValue forms.Ech value own = IsUtf8 value × (1 ≤ length value) × IsBase64Text value own
IsOwnValue forms.Ipv6 value own = IsListText Ipv6 value own
IsOwnValue forms.Template value own = IsUtf8 value × (1 ≤ length value) × (own ≡ value)
IsOwnValue forms.Any value own = ⊥

-- a key by its name has a value of its form; by its number, any octets
abbrev pub IsParamOf : List ℕ → List ℕ → ParamValue → Type 0
IsParamOf key value p =
    ((named_key key ≡ Some p.key) × IsOwnValue (named_form p.key) value p.octets × (length p.octets ≤ max_value))
    ⊎ (IsGenericKey key p.key × (p.octets ≡ value))

-- the word is this parameter; its value may have any octets as they are (RFC 9460, appendix A: `OCTET`)
abbrev pub IsParam : List ℕ → ParamValue → Type 0
IsParam word p = (value : List ℕ) × IsUtf8 (key_part word) × IsValueText (value_part word) value × IsParamOf (key_part word) value p
