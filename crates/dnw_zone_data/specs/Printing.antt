-- The text of fields: each after a space (RFC 1035, section 5.1).
use Rattle.std.specs.Int.{w64, to_be_bytes}
use Rattle.std.specs.Prelude.{◌≡◌, ◌≤◌, ℕ, ◌⊎◌, Bool, true, false, List, [], ◌∷◌, ◌++◌, length, drop, flat_map, decimal}
use Rattle.std.specs.Net.Text.{ipv4_text, ipv6_text}
use Rattle.dnw_base.specs.declared.error.DecodeError.{DecodeError}
use Rattle.dnw_base.specs.Decoder.{Decoder}
use Rattle.dnw_base.specs.Names.{label_wire}
use Rattle.dnw_data.specs.declared.kind.Kind.{Kind}
use Rattle.dnw_data.specs.declared.kind.Kind.TheVariants.{Counted, Octets, U16, U48, U64, Locator, NodeNumber}
use Rattle.dnw_data.specs.declared.kind.Shown.TheVariants.{Text, Tag, Hex, Base32Hex, Base64, Nsap, Ports, OldTypes}
use Rattle.dnw_data.specs.Values.{FieldValue, name, u8, u16, u32, u48, u64, ipv4, ipv6, type_code, time, counted, octets, texts, types, params}
use Rattle.dnw_data.specs.Values.{prefixes, names, long_counted, shaped}
use Rattle.dnw_data.specs.Fields.{TakesField, FailsField}
use Rattle.dnw_data.specs.Walks.{IsAtEnd}
use Rattle.dnw_zone_values.specs.Octets.{base64_text, salt_text}
use Rattle.dnw_zone_values.specs.Strings.{string_text}
use Rattle.dnw_zone_values.specs.Tags.{IsTag}
use Rattle.dnw_zone_values.specs.Base32.{base32_text}
use Rattle.dnw_zone_values.specs.Pairs.{pairs_text}
use Rattle.dnw_zone_values.specs.Times.{IsDateText}
use Rattle.dnw_name_text.specs.NameTexts.{full_name_text}
use Rattle.dnw_zone_data.specs.TypeLists.{shown_type, PrintsTypes}
use Rattle.dnw_zone_data.specs.ParamLists.{PrintsParams}
use Rattle.dnw_zone_data.specs.Gateways.{PrintsShaped}
use Rattle.dnw_zone_data.specs.Locators.{PrintsLocator, PrintsNsap}
use Rattle.dnw_zone_data.specs.NameLists.{PrintsNames}
use Rattle.dnw_zone_data.specs.PrefixLists.{PrintsPrefixes}
use Rattle.dnw_zone_data.specs.Bitmaps.{PrintsBits}
use Rattle.dnw_zone_data.specs.Generic.{hex_part}

-- nothing for no octets
abbrev pub base64_part : List ℕ → List ℕ
base64_part [] = []
base64_part (o ∷ own) = 32 ∷ base64_text (o ∷ own)

abbrev pub PrintsTime : ℕ → List ℕ → Type 0
PrintsTime seconds text = (date : List ℕ) × IsDateText date seconds × (text ≡ 32 ∷ date)

-- a number of two octets; an address of Chaosnet has no text here
abbrev pub PrintsU16 : Kind → ℕ → List ℕ → Type 0
PrintsU16 U16 n text = text ≡ 32 ∷ decimal n
PrintsU16 kind n text = ⊥

-- an identifier of six octets; a time of so many has no text here
abbrev pub PrintsU48 : Kind → ℕ → List ℕ → Type 0
PrintsU48 U48 n text = text ≡ 32 ∷ pairs_text (drop 2 (to_be_bytes w64 n))
PrintsU48 kind n text = ⊥

-- a number of eight octets: an identifier, one of a node or a locator, or the number of a node
abbrev pub PrintsU64 : Kind → ℕ → List ℕ → Type 0
PrintsU64 U64 n text = text ≡ 32 ∷ pairs_text (to_be_bytes w64 n)
PrintsU64 Locator n text = PrintsLocator n text
PrintsU64 NodeNumber n text = text ≡ 32 ∷ decimal n
PrintsU64 kind n text = ⊥

-- octets with a length octet before them
abbrev pub PrintsCounted : Kind → List ℕ → List ℕ → Type 0
PrintsCounted (Counted Text) own text = text ≡ 32 ∷ string_text own
PrintsCounted (Counted Tag) own text = IsTag own × (text ≡ 32 ∷ own)
PrintsCounted (Counted Hex) own text = text ≡ 32 ∷ salt_text own
PrintsCounted (Counted Base32Hex) own text = (1 ≤ length own) × (text ≡ 32 ∷ base32_text own)
PrintsCounted kind own text = ⊥

-- octets up to the end; no server reads a text that ends before them
abbrev pub PrintsOctets : Kind → List ℕ → List ℕ → Type 0
PrintsOctets (Octets Hex) own text = (1 ≤ length own) × (text ≡ hex_part own)
PrintsOctets (Octets Base64) own text = (1 ≤ length own) × (text ≡ base64_part own)
PrintsOctets (Octets Text) own text = text ≡ 32 ∷ string_text own
PrintsOctets (Octets Nsap) own text = PrintsNsap own text
PrintsOctets (Octets Ports) own text = PrintsBits Ports own text
PrintsOctets (Octets OldTypes) own text = PrintsBits OldTypes own text
PrintsOctets kind own text = ⊥

-- character strings, each after a space
abbrev pub strings_text : List (List ℕ) → List ℕ
strings_text strings = flat_map (λ string. 32 ∷ string_text string) strings

-- The octets are strings, each after its length octet.
abbrev pub AreStrings : List ℕ → List (List ℕ) → Type 0
AreStrings own strings = own ≡ flat_map label_wire strings

abbrev pub PrintsStrings : List ℕ → List ℕ → Type 0
PrintsStrings own text = (strings : List (List ℕ)) × AreStrings own strings × (text ≡ strings_text strings)

-- The text is that of the field.
abbrev pub Prints : Kind → FieldValue → List ℕ → Type 0
Prints kind (name labels) text = text ≡ 32 ∷ full_name_text labels
Prints kind (u8 n) text = text ≡ 32 ∷ decimal n
Prints kind (u16 n) text = PrintsU16 kind n text
Prints kind (u32 n) text = text ≡ 32 ∷ decimal n
Prints kind (u48 n) text = PrintsU48 kind n text
Prints kind (u64 n) text = PrintsU64 kind n text
Prints kind (ipv4 own) text = text ≡ 32 ∷ ipv4_text own
Prints kind (ipv6 segments) text = text ≡ 32 ∷ ipv6_text segments
Prints kind (type_code code) text = text ≡ 32 ∷ shown_type code
Prints kind (time seconds) text = PrintsTime seconds text
Prints kind (counted own) text = PrintsCounted kind own text
Prints kind (octets own) text = PrintsOctets kind own text
Prints kind (texts items) text = PrintsStrings items.octets text
Prints kind (types items) text = PrintsTypes items.octets text
Prints kind (params items) text = PrintsParams items.octets text
Prints kind (prefixes items) text = PrintsPrefixes items.octets text
Prints kind (names items) text = PrintsNames items.octets text
Prints kind (long_counted own) text = ⊥
Prints kind (shaped own) text = PrintsShaped own.shape own.octets text

-- The text is that of the fields of these kinds, which are read up to the end.
abbrev pub PrintsFields : List Kind → Decoder → List ℕ → Type 0
PrintsFields [] d text = IsAtEnd d × (text ≡ [])
PrintsFields (kind ∷ kinds) d text =
    (value : FieldValue) × (after : Decoder) × (own : List ℕ) × (others : List ℕ) × TakesField kind d value after
    × Prints kind value own × PrintsFields kinds after others × (text ≡ own ++ others)

-- A field cannot be read, or it has no text.
abbrev pub HasNoText : List Kind → Decoder → Type 0
HasNoText [] d = ¬ (IsAtEnd d)
HasNoText (kind ∷ kinds) d =
    ((error : DecodeError) × FailsField kind d error)
    ⊎ ((value : FieldValue) × (after : Decoder) × TakesField kind d value after
    × (((own : List ℕ) → ¬ (Prints kind value own)) ⊎ HasNoText kinds after))

-- The text of the fields is appended, or they have none.
abbrev pub AppendsFields : List Kind → Decoder → List ℕ → List ℕ → Bool → Type 0
AppendsFields kinds d old new true = (text : List ℕ) × PrintsFields kinds d text × (new ≡ old ++ text)
AppendsFields kinds d old new false = HasNoText kinds d
