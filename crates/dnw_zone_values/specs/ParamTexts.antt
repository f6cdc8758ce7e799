-- Service parameters as text (RFC 9460, section 2.1): the key, and its value after a `=` if there is one. A value that does not
-- have the form of its key, or that would be too long in it, is printed as that of any key is, so that it round-trips.
use Rattle.std.specs.Prelude.{ℕ, zero, suc, ◌==◌, nat_le, if◌then◌else◌, List, [], ◌∷◌, ◌++◌, length, take, drop, Option, Some, None, option_map, decimal}
use Rattle.std.specs.Int.{w16, from_be_bytes}
use Rattle.dnw_zone_values.specs.Octets.{base64_text}
use Rattle.dnw_zone_values.specs.Strings.{string_text}
use Rattle.dnw_zone_values.specs.declared.keys.Form.{Form}
use Rattle.dnw_zone_values.specs.declared.keys.Form.TheVariants as forms
use Rattle.dnw_zone_values.specs.declared.lists.ListValue.TheVariants.{Keys, Protocols, Ipv4, Ipv6}
use Rattle.dnw_zone_values.specs.ParamKeys.{form_of, key_text, generic_key}
use Rattle.dnw_zone_values.specs.ParamValues.{is_ascending, list_text}

abbrev pub equals : ℕ
equals = 61

-- the text of a value, if the octets have this form (RFC 9460, sections 7 and 8; RFC 9848 for ech)
abbrev pub own_text : Form → List ℕ → Option (List ℕ)
own_text forms.Mandatory octets = if is_ascending 1 octets then list_text Keys octets else None
own_text forms.Protocols octets = list_text Protocols octets
own_text forms.Nothing octets = if length octets == 0 then Some [] else None
own_text forms.Port octets = if length octets == 2 then Some (decimal (from_be_bytes w16 octets)) else None
own_text forms.Ipv4 octets = list_text Ipv4 octets
own_text forms.Ech octets = if length octets == 0 then None else Some (base64_text octets)
own_text forms.Ipv6 octets = list_text Ipv6 octets
own_text form octets = None

-- what is after the key: nothing for none, else the value, in quotes if its octets may be any
abbrev pub any_part : List ℕ → List ℕ
any_part [] = []
any_part (o ∷ octets) = equals ∷ string_text (o ∷ octets)

abbrev pub own_part : Form → List ℕ → List ℕ
own_part forms.Protocols text = any_part text
own_part forms.Nothing text = []
own_part form text = equals ∷ text

-- a value is written in at most so many characters, since any octets are at most so many
abbrev pub max_value : ℕ
max_value = 65535

abbrev pub part_of : ℕ → List ℕ → Option (List ℕ) → List ℕ
part_of key octets (Some text) =
    if nat_le (length text) max_value then key_text key ++ own_part (form_of key) text else generic_key key ++ any_part octets
part_of key octets None = generic_key key ++ any_part octets

-- the text of a parameter
abbrev pub param_text : ℕ → List ℕ → List ℕ
param_text key octets = part_of key octets (own_text (form_of key) octets)

-- the texts of at most n parameters, each after a space, if the octets are parameters
abbrev pub params_within : ℕ → List ℕ → Option (List ℕ)
params_within n [] = Some []
params_within zero octets = None
params_within (suc n) (a ∷ []) = None
params_within (suc n) (a ∷ b ∷ []) = None
params_within (suc n) (a ∷ b ∷ c ∷ []) = None
params_within (suc n) (a ∷ b ∷ c ∷ d ∷ octets) =
    let len = from_be_bytes w16 (c ∷ d ∷ []) in
    if nat_le len (length octets)
    then option_map (λ others. 32 ∷ param_text (from_be_bytes w16 (a ∷ b ∷ [])) (take len octets) ++ others) (params_within n (drop len octets))
    else None

abbrev pub params_text : List ℕ → Option (List ℕ)
params_text octets = params_within (length octets) octets
