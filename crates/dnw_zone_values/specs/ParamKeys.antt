-- The keys of service parameters as text (RFC 9460, sections 2.1 and 14.3.2): a name in lower case, or `key` and the number in
-- decimal without zeros before it, which any key may be written as. The names `dohpath` (RFC 9461, section 5) and `ohttp` (RFC 9540,
-- section 4) are read; these keys are printed by their numbers, which more servers read.
use Rattle.std.specs.Prelude.{ℕ, ◌==◌, ◌≡◌, ◌≤◌, ◌⊎◌, ◌++◌, if◌then◌else◌, List, Option, Some, None, codes, decimal}
use Rattle.std.specs.Str.{bytes_eq}
use Rattle.dnw_zone_values.specs.declared.keys.Form.{Form}
use Rattle.dnw_zone_values.specs.declared.keys.Form.TheVariants.{Mandatory, Protocols, Nothing, Port, Ipv4, Ech, Ipv6, Template, Any}

-- the greatest key, since it is written in two octets
abbrev pub max_key : ℕ
max_key = 65535

-- the text of any key
abbrev pub generic_key : ℕ → List ℕ
generic_key key = codes "key" ++ decimal key

-- the form in which the values of a key are printed
abbrev pub form_of : ℕ → Form
form_of key =
    if key == 0 then Mandatory
    else if key == 1 then Protocols
    else if key == 2 then Nothing
    else if key == 3 then Port
    else if key == 4 then Ipv4
    else if key == 5 then Ech
    else if key == 6 then Ipv6
    else Any

-- the form of a value after the name of its key
abbrev pub named_form : ℕ → Form
named_form key = if key == 7 then Template else if key == 8 then Nothing else form_of key

-- the name of a key whose values have this form, or its number
abbrev pub key_name : Form → ℕ → List ℕ
key_name Mandatory key = codes "mandatory"
key_name Protocols key = codes "alpn"
key_name Nothing key = codes "no-default-alpn"
key_name Port key = codes "port"
key_name Ipv4 key = codes "ipv4hint"
key_name Ech key = codes "ech"
key_name Ipv6 key = codes "ipv6hint"
key_name form key = generic_key key

abbrev pub key_text : ℕ → List ℕ
key_text key = key_name (form_of key) key

-- the key with this name
abbrev pub named_key : List ℕ → Option ℕ
named_key text =
    if bytes_eq text (codes "mandatory") then Some 0
    else if bytes_eq text (codes "alpn") then Some 1
    else if bytes_eq text (codes "no-default-alpn") then Some 2
    else if bytes_eq text (codes "port") then Some 3
    else if bytes_eq text (codes "ipv4hint") then Some 4
    else if bytes_eq text (codes "ech") then Some 5
    else if bytes_eq text (codes "ipv6hint") then Some 6
    else if bytes_eq text (codes "dohpath") then Some 7
    else if bytes_eq text (codes "ohttp") then Some 8
    else None

-- the text is the number of this key
abbrev pub IsGenericKey : List ℕ → ℕ → Type 0
IsGenericKey text key = (key ≤ max_key) × (text ≡ generic_key key)

-- the text is this key, by name or by number
abbrev pub IsKey : List ℕ → ℕ → Type 0
IsKey text key = (named_key text ≡ Some key) ⊎ IsGenericKey text key
