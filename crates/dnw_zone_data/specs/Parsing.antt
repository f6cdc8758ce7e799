-- Which fields texts give (RFC 1035, section 5.1), and the octets that fields are.
use Rattle.std.specs.Prelude.{◌≡◌, ◌≢◌, ℕ, ◌-◌, ◌⊎◌, Option, Some, true, List, [], ◌∷◌, length}
use Rattle.std.specs.Int.{w64, from_be_bytes}
use Rattle.std.specs.Net.Addr.{ipv4_octets, ipv6_segments}
use Rattle.std.specs.Net.Grammar.{IsIpv4Text, IsIpv6Text}
use Rattle.std.specs.declared.net.Ipv4Addr.{Ipv4Addr}
use Rattle.std.specs.declared.net.Ipv6Addr.{Ipv6Addr}
use Rattle.dnw_base.specs.Names.{NameValue}
use Rattle.dnw_data.specs.declared.kind.Kind.{Kind}
use Rattle.dnw_data.specs.declared.kind.Kind.TheVariants as kinds
use Rattle.dnw_data.specs.declared.kind.ListKind.{ListKind}
use Rattle.dnw_data.specs.declared.kind.ListKind.TheVariants as lists
use Rattle.dnw_data.specs.declared.kind.Shape.TheVariants.{Location, Gateway, Relay, HostIdentity}
use Rattle.dnw_data.specs.declared.kind.Shown.{Shown}
use Rattle.dnw_data.specs.declared.kind.Shown.TheVariants.{Text, Tag, Hex, Base32Hex, Base64, MaybeBase64, Nsap, Ports, OldTypes}
use Rattle.dnw_data.specs.Values.{FieldValue, name, u8, u16, u32, u48, u64, ipv4, ipv6, time, counted, octets}
use Rattle.dnw_zone_values.specs.Numbers.{max_u8, max_u16, max_u32}
use Rattle.dnw_zone_values.specs.Octets.{IsHexText, IsBase64Text, IsSaltText}
use Rattle.dnw_zone_values.specs.Strings.{IsStringText, IsLongText}
use Rattle.dnw_zone_values.specs.Tags.{IsTagText}
use Rattle.dnw_zone_values.specs.Base32.{IsHashText}
use Rattle.dnw_zone_values.specs.Pairs.{IsPairsText}
use Rattle.dnw_zone_values.specs.Times.{IsTimeText}
use Rattle.dnw_zone_data.specs.declared.error.DataTextError.{DataTextError}
use Rattle.dnw_zone_data.specs.declared.error.Wanted.{Wanted}
use Rattle.dnw_zone_data.specs.declared.error.Wanted.TheVariants.{End}
use Rattle.dnw_zone_data.specs.declared.extent.Extent.{Extent}
use Rattle.dnw_zone_data.specs.declared.extent.Extent.TheVariants.{One, Three, All}
use Rattle.dnw_zone_data.specs.declared.number_form.NumberForm.{NumberForm}
use Rattle.dnw_zone_data.specs.NumberForms.{first_form, is_given, other_forms, IsNumberIn}
use Rattle.dnw_zone_data.specs.Words.{after_spaces, word, after_word, second_word_on, without_spaces}
use Rattle.dnw_zone_data.specs.Faults.{fault, wanted_of}
use Rattle.dnw_zone_data.specs.NameReading.{named_at}
use Rattle.dnw_zone_data.specs.Gateways.{AreShape, IsShape}
use Rattle.dnw_zone_data.specs.Locators.{IsLocatorField, IsNodeNumber, IsNsapField}
use Rattle.dnw_zone_data.specs.NameLists.{AreListedNames}
use Rattle.dnw_zone_data.specs.PrefixLists.{ArePrefixes}
use Rattle.dnw_zone_data.specs.Bitmaps.{AreBits}
use Rattle.dnw_zone_data.specs.TypeLists.{AreTypes, IsTypeField}
use Rattle.dnw_zone_data.specs.ParamLists.{AreParams, IsParamsWanted}
use Rattle.dnw_zone_data.specs.StringLists.{AreTexts, IsTextsWanted}

-- ---- the fields of words

-- a number of this size in a form, as the field that it makes
abbrev pub IsNumber : NumberForm → ℕ → (ℕ → FieldValue) → List ℕ → FieldValue → Type 0
IsNumber way max field text value = (n : ℕ) × IsNumberIn way max text n × (value ≡ field n)

-- octets in a spelling
abbrev pub AreOctetsOf : (List ℕ → List ℕ → Type 0) → (List ℕ → FieldValue) → List ℕ → FieldValue → Type 0
AreOctetsOf Spells field text value = (own : List ℕ) × Spells text own × (value ≡ field own)

-- a word is a name, completed by the origin
abbrev pub IsNameField : Option NameValue → List ℕ → FieldValue → Type 0
IsNameField origin text value = (labels : List (List ℕ)) × (named_at origin text ≡ Some labels) × (value ≡ name labels)

-- a word is a number or a time of this kind
abbrev pub IsNumberOf : NumberForm → Kind → List ℕ → FieldValue → Type 0
IsNumberOf way kinds.U8 text value = IsNumber way max_u8 u8 text value
IsNumberOf way kinds.U16 text value = IsNumber way max_u16 u16 text value
IsNumberOf way kinds.U32 text value = IsNumber way max_u32 u32 text value
IsNumberOf way kinds.Time text value = (n : ℕ) × IsTimeText text n × (value ≡ time n)
IsNumberOf way kind text value = ⊥

-- pairs of digits are so many octets, as the field that they make
abbrev pub IsIdentifierField : ℕ → (List ℕ → FieldValue) → List ℕ → FieldValue → Type 0
IsIdentifierField size field text value = (own : List ℕ) × IsPairsText text own × (length own ≡ size) × (value ≡ field own)

-- the numbers of identifiers, by their octets
abbrev pub eui48 : List ℕ → FieldValue
eui48 own = u48 (from_be_bytes w64 (0 ∷ 0 ∷ own))

abbrev pub eui64 : List ℕ → FieldValue
eui64 own = u64 (from_be_bytes w64 own)

-- a word writes octets that have a length octet before them; a string may have any octets as they are
abbrev pub SpellsShown : Shown → List ℕ → List ℕ → Type 0
SpellsShown Text text own = IsStringText text own
SpellsShown Tag text own = IsTagText text own
SpellsShown Hex text own = IsSaltText text own
SpellsShown Base32Hex text own = IsHashText text own
SpellsShown shown text own = ⊥

-- a word is octets up to the end: written as a string is, or an address of NSAP
abbrev pub IsOctetsOf : Shown → List ℕ → FieldValue → Type 0
IsOctetsOf Text text value = AreOctetsOf IsLongText octets text value
IsOctetsOf Nsap text value = IsNsapField text value
IsOctetsOf shown text value = ⊥

-- a word is a field of this kind, and its number is in a form
abbrev pub IsWord : Option NameValue → NumberForm → Kind → List ℕ → FieldValue → Type 0
IsWord origin way (kinds.Name form) text value = IsNameField origin text value
IsWord origin way kinds.Ipv4 text value = (a : Ipv4Addr) × IsIpv4Text text a × (value ≡ ipv4 (ipv4_octets a))
IsWord origin way kinds.Ipv6 text value = (a : Ipv6Addr) × IsIpv6Text text a × (value ≡ ipv6 (ipv6_segments a))
IsWord origin way kinds.TypeCode text value = IsTypeField text value
IsWord origin way kinds.U48 text value = IsIdentifierField 6 eui48 text value
IsWord origin way kinds.U64 text value = IsIdentifierField 8 eui64 text value
IsWord origin way kinds.Locator text value = IsLocatorField text value
IsWord origin way kinds.NodeNumber text value = IsNodeNumber text value
IsWord origin way (kinds.Counted shown) text value = AreOctetsOf (SpellsShown shown) counted text value
IsWord origin way (kinds.Octets shown) text value = IsOctetsOf shown text value
IsWord origin way kind text value = IsNumberOf way kind text value

-- a text writes octets up to the end
abbrev pub SpellsOctets : Shown → List ℕ → List ℕ → Type 0
SpellsOctets Hex text own = IsHexText text own
SpellsOctets Base64 text own = IsBase64Text text own
SpellsOctets shown text own = ⊥

-- all words write octets as one, which are not left out if the form does not say so; or they are the numbers of a bitmap
abbrev pub AllSpell : NumberForm → Shown → List ℕ → List ℕ → Type 0
AllSpell way Ports left own = AreBits Ports left own
AllSpell way OldTypes left own = AreBits OldTypes left own
AllSpell way shown left own = SpellsOctets shown (without_spaces left) own × (is_given way own ≡ true)

-- all words are the items of a list
abbrev pub AreList : Option NameValue → ListKind → List ℕ → FieldValue → Type 0
AreList origin lists.Texts left value = AreTexts left value
AreList origin lists.Types left value = AreTypes left value
AreList origin lists.Params left value = AreParams left value
AreList origin lists.Names left value = AreListedNames origin left value
AreList origin lists.Prefixes left value = ArePrefixes left value

-- all words are a field of this kind
abbrev pub AreAll : Option NameValue → NumberForm → Kind → List ℕ → FieldValue → Type 0
AreAll origin way (kinds.Octets shown) left value = (own : List ℕ) × AllSpell way shown left own × (value ≡ octets own)
AreAll origin way (kinds.List list) left value = AreList origin list left value
AreAll origin way (kinds.Shaped shape) left value = AreShape shape left value
AreAll origin way kind left value = ⊥

-- three words are a field of this kind
abbrev pub AreThree : Option NameValue → Kind → List ℕ → List ℕ → List ℕ → FieldValue → Type 0
AreThree origin (kinds.Shaped shape) first second third value = IsShape origin shape first second third value
AreThree origin kind first second third value = ⊥

-- the first three words of a text are a field of this kind, and this is after them
abbrev pub ReadsThree : Option NameValue → Kind → List ℕ → FieldValue → List ℕ → Type 0
ReadsThree origin kind left value rest =
    let second = second_word_on left in
    let third = second_word_on second in
    AreThree origin kind (word left) (word second) (word third) value × (rest ≡ after_word third)

-- ---- fields

-- how many words are the text of a field of a kind
abbrev pub extent_of : Kind → Extent
extent_of (kinds.Octets Hex) = All
extent_of (kinds.Octets Base64) = All
extent_of (kinds.Octets MaybeBase64) = All
extent_of (kinds.Octets Ports) = All
extent_of (kinds.Octets OldTypes) = All
extent_of (kinds.List list) = All
extent_of (kinds.Shaped Location) = All
extent_of (kinds.Shaped Gateway) = Three
extent_of (kinds.Shaped Relay) = Three
extent_of (kinds.Shaped HostIdentity) = Three
extent_of kind = One

-- so many words are the field, and this is after them
abbrev pub ReadsBy : Extent → Option NameValue → NumberForm → Kind → List ℕ → FieldValue → List ℕ → Type 0
ReadsBy One origin way kind left value rest = IsWord origin way kind (word left) value × (rest ≡ after_word left)
ReadsBy Three origin way kind left value rest = ReadsThree origin kind left value rest
ReadsBy All origin way kind left value rest = AreAll origin way kind left value × (rest ≡ [])

-- The first words of a text are a field of this kind with its number in a form, and this is after it.
abbrev pub ReadsField : Option NameValue → NumberForm → Kind → List ℕ → FieldValue → List ℕ → Type 0
ReadsField origin way kind left value rest = ReadsBy (extent_of kind) origin way kind left value rest

-- The text is these fields of these kinds, with numbers in these forms.
abbrev pub AreFieldTexts : Option NameValue → List NumberForm → List Kind → List ℕ → List FieldValue → Type 0
AreFieldTexts origin ways [] left [] = after_spaces left ≡ []
AreFieldTexts origin ways (kind ∷ kinds) left (value ∷ values) =
    (rest : List ℕ) × ReadsField origin (first_form ways) kind (after_spaces left) value rest × AreFieldTexts origin (other_forms ways) kinds rest values
AreFieldTexts origin ways kinds left values = ⊥

-- what is wanted of a field of a kind with its number in a form, in place of a text that is none
abbrev pub IsWanted : NumberForm → Kind → List ℕ → Wanted → Type 0
IsWanted way (kinds.List lists.Params) left wanted = IsParamsWanted left wanted
IsWanted way (kinds.List lists.Texts) left wanted = IsTextsWanted left wanted
IsWanted way kind left wanted = wanted ≡ wanted_of way kind

-- The text goes wrong at a field, or goes on after the last: of so many fields, in a text of this length.
abbrev pub FailsFields : Option NameValue → ℕ → ℕ → List NumberForm → List Kind → List ℕ → DataTextError → Type 0
FailsFields origin count len ways [] left e = (after_spaces left ≢ []) × (e ≡ fault count (len - length (after_spaces left)) End)
FailsFields origin count len ways (kind ∷ kinds) left e =
    (((value : FieldValue) (rest : List ℕ) → ¬ (ReadsField origin (first_form ways) kind (after_spaces left) value rest))
    × (wanted : Wanted) × IsWanted (first_form ways) kind (after_spaces left) wanted
    × (e ≡ fault (count - length (kind ∷ kinds)) (len - length (after_spaces left)) wanted))
    ⊎ ((value : FieldValue) × (rest : List ℕ) × ReadsField origin (first_form ways) kind (after_spaces left) value rest
    × FailsFields origin count len (other_forms ways) kinds rest e)
