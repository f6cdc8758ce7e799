-- Gateways, relays and host identities as text, three words each (RFC 4025, section 3.1; RFC 8777, section 4.3; RFC 8005, section
-- 6).
use Rattle.std.specs.Prelude.{◌≡◌, ◌≤◌, ℕ, ◌+◌, ◌*◌, ◌⊎◌, Option, Some, List, [], ◌∷◌, ◌++◌, length, codes, decimal}
use Rattle.std.specs.Int.{w16, to_be_bytes}
use Rattle.std.specs.Net.Addr.{ipv4_octets, ipv6_segments, octets_of, segments_of}
use Rattle.std.specs.Net.Grammar.{IsIpv4Text, IsIpv6Text}
use Rattle.std.specs.Net.Text.{ipv4_text, ipv6_text}
use Rattle.std.specs.declared.net.Ipv4Addr.{Ipv4Addr}
use Rattle.std.specs.declared.net.Ipv6Addr.{Ipv6Addr}
use Rattle.dnw_base.specs.Limits.{max_data}
use Rattle.dnw_base.specs.Names.{AreLabels, NameValue, wire}
use Rattle.dnw_data.specs.declared.kind.Shape.{Shape}
use Rattle.dnw_data.specs.declared.kind.Shape.TheVariants.{Location, Gateway, Relay, HostIdentity}
use Rattle.dnw_data.specs.Values.{FieldValue, shaped}
use Rattle.dnw_zone_values.specs.Locations.{PrintsLocation}
use Rattle.dnw_zone_values.specs.Numbers.{max_u8, IsNumberText}
use Rattle.dnw_zone_values.specs.Octets.{base64_text, hex_text, IsBase64Text, IsHexText}
use Rattle.dnw_name_text.specs.NameTexts.{full_name_text}
use Rattle.dnw_zone_data.specs.Locations.{AreLocation}
use Rattle.dnw_zone_data.specs.NameReading.{named_at}

-- ---- the octets

-- the flag of a relay is the high bit of the octet of its type (RFC 8777, section 4.2.3)
abbrev pub relay_flag : ℕ
relay_flag = 128

abbrev pub identity_wire : ℕ → List ℕ → List ℕ → List ℕ
identity_wire algorithm tag key = length tag ∷ algorithm ∷ to_be_bytes w16 (length key) ++ tag ++ key

-- A tag and a key have an octet at least, and no more than their lengths can count.
pub record AreTagAndKey (tag key : List ℕ) : Type 0 where
  pub some_tag : 1 ≤ length tag
  pub short_tag : length tag ≤ max_u8
  pub some_key : 1 ≤ length key
  pub short_key : length key ≤ max_data

abbrev pub of_shape : Shape → List ℕ → FieldValue
of_shape shape own = shaped (record { shape = shape; octets = own })

-- ---- printing

-- the octets of a gateway or a relay of a type have this text: none is a dot, and others are an address or a name
abbrev pub PrintsEnd : ℕ → List ℕ → List ℕ → Type 0
PrintsEnd type own text =
    ((type ≡ 0) × (own ≡ []) × (text ≡ codes "."))
    ⊎ ((type ≡ 1) × (length own ≡ 4) × (text ≡ ipv4_text own))
    ⊎ ((type ≡ 2) × (length own ≡ 16) × (text ≡ ipv6_text (segments_of own)))
    ⊎ ((type ≡ 3) × (labels : List (List ℕ)) × AreLabels labels × (own ≡ wire labels) × (text ≡ full_name_text labels))

-- three words, each after a space
abbrev pub three_words : List ℕ → List ℕ → List ℕ → List ℕ
three_words first second third = (32 ∷ first) ++ ((32 ∷ second) ++ (32 ∷ third))

abbrev pub PrintsGateway : List ℕ → List ℕ → Type 0
PrintsGateway own text =
    (type : ℕ) × (algorithm : ℕ) × (gateway : List ℕ) × (shown : List ℕ) × (own ≡ type ∷ algorithm ∷ gateway) × PrintsEnd type gateway shown
    × (text ≡ three_words (decimal type) (decimal algorithm) shown)

abbrev pub PrintsRelay : List ℕ → List ℕ → Type 0
PrintsRelay own text =
    (flag : ℕ) × (type : ℕ) × (relay : List ℕ) × (shown : List ℕ) × (flag ≤ 1) × (own ≡ (relay_flag * flag + type) ∷ relay) × PrintsEnd type relay shown
    × (text ≡ three_words (decimal flag) (decimal type) shown)

abbrev pub PrintsIdentity : List ℕ → List ℕ → Type 0
PrintsIdentity own text =
    (algorithm : ℕ) × (tag : List ℕ) × (key : List ℕ) × AreTagAndKey tag key × (own ≡ identity_wire algorithm tag key)
    × (text ≡ three_words (decimal algorithm) (hex_text tag) (base64_text key))

-- octets of a shape have this text
abbrev pub PrintsShaped : Shape → List ℕ → List ℕ → Type 0
PrintsShaped Gateway own text = PrintsGateway own text
PrintsShaped Relay own text = PrintsRelay own text
PrintsShaped HostIdentity own text = PrintsIdentity own text
PrintsShaped Location own text = PrintsLocation own text
PrintsShaped shape own text = ⊥

-- ---- parsing

-- a word is the octets of a gateway or a relay of a type; an origin completes a name
abbrev pub IsGatewayEnd : Option NameValue → ℕ → List ℕ → List ℕ → Type 0
IsGatewayEnd origin type text own =
    ((type ≡ 0) × (text ≡ codes ".") × (own ≡ []))
    ⊎ ((type ≡ 1) × (a : Ipv4Addr) × IsIpv4Text text a × (own ≡ ipv4_octets a))
    ⊎ ((type ≡ 2) × (a : Ipv6Addr) × IsIpv6Text text a × (own ≡ octets_of (ipv6_segments a)))
    ⊎ ((type ≡ 3) × (labels : List (List ℕ)) × (named_at origin text ≡ Some labels) × (own ≡ wire labels))

-- words are the type of a gateway, an algorithm and the gateway
abbrev pub IsGateway : Option NameValue → List ℕ → List ℕ → List ℕ → FieldValue → Type 0
IsGateway origin first second third value =
    (type : ℕ) × (algorithm : ℕ) × (gateway : List ℕ) × IsNumberText max_u8 first type × IsNumberText max_u8 second algorithm × IsGatewayEnd origin type third gateway
    × (value ≡ of_shape Gateway (type ∷ algorithm ∷ gateway))

-- words are a flag, the type of a relay and the relay
abbrev pub IsRelay : Option NameValue → List ℕ → List ℕ → List ℕ → FieldValue → Type 0
IsRelay origin first second third value =
    (flag : ℕ) × (type : ℕ) × (relay : List ℕ) × IsNumberText 1 first flag × IsNumberText max_u8 second type × IsGatewayEnd origin type third relay
    × (value ≡ of_shape Relay ((relay_flag * flag + type) ∷ relay))

-- words are an algorithm, a tag in hexadecimal and a key in base 64
abbrev pub IsIdentity : List ℕ → List ℕ → List ℕ → FieldValue → Type 0
IsIdentity first second third value =
    (algorithm : ℕ) × (tag : List ℕ) × (key : List ℕ) × IsNumberText max_u8 first algorithm × IsHexText second tag × IsBase64Text third key
    × AreTagAndKey tag key × (value ≡ of_shape HostIdentity (identity_wire algorithm tag key))

-- all words are a field of a shape
abbrev pub AreShape : Shape → List ℕ → FieldValue → Type 0
AreShape Location left value = AreLocation left value
AreShape shape left value = ⊥

-- three words are
abbrev pub IsShape : Option NameValue → Shape → List ℕ → List ℕ → List ℕ → FieldValue → Type 0
IsShape origin Gateway first second third value = IsGateway origin first second third value
IsShape origin Relay first second third value = IsRelay origin first second third value
IsShape origin HostIdentity first second third value = IsIdentity first second third value
IsShape origin shape first second third value = ⊥
