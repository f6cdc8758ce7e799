-- What follows from the definitions of texts of data. Each is the clause of a public function, and so proved.
use Rattle.std.specs.Prelude.{◌≡◌, ◌≢◌, ℕ, ◌^◌, ◌<◌, ◌≤◌, true, List, [], ◌++◌, length, Option, None, ◌⊎◌}
use Rattle.std.specs.Net.Addr.{ipv4_octets, ipv6_segments, IsIpv4Addr, IsIpv6Addr}
use Rattle.std.specs.List.{AllByRecursion}
use Rattle.std.specs.declared.net.Ipv4Addr.{Ipv4Addr}
use Rattle.std.specs.declared.net.Ipv6Addr.{Ipv6Addr}
use Rattle.dnw_base.specs.Names.{NameValue, AreLabels}
use Rattle.dnw_base.specs.declared.record_type.RecordType.{RecordType}
use Rattle.dnw_base.specs.DnsClasses.{class_code}
use Rattle.dnw_base.specs.RecordTypes.{type_code as code_of, type_of_code}
use Rattle.dnw_data.specs.declared.kind.Kind.{Kind}
use Rattle.dnw_data.specs.declared.kind.NameForm.{NameForm}
use Rattle.dnw_data.specs.declared.kind.Kind.TheVariants.{U8, U16, U32, U48, U64, Ipv4, Ipv6, TypeCode, Time, Locator, NodeNumber, Counted, Octets}
use Rattle.dnw_data.specs.declared.kind.Kind.TheVariants as kinds
use Rattle.dnw_data.specs.declared.kind.ListKind.TheVariants as lists
use Rattle.dnw_data.specs.declared.kind.Shape.{Shape}
use Rattle.dnw_data.specs.declared.kind.Shown.TheVariants.{Text, Tag, Hex, Base32Hex, Base64, Nsap, Ports, OldTypes}
use Rattle.dnw_data.specs.Lists.{list_fault}
use Rattle.dnw_data.specs.Table.{fields_of}
use Rattle.dnw_data.specs.Values.{FieldValue, name, u8, u16, u32, u48, u64, ipv4, ipv6, type_code, time, counted, octets, texts, types, params, prefixes, names, items}
use Rattle.dnw_name_read.specs.ReadingLaws.{AreBytes}
use Rattle.dnw_record.specs.Records.{RecordValue}
use Rattle.dnw_zone_values.specs.Base32.{IsHash}
use Rattle.dnw_zone_values.specs.Numbers.{max_u8, max_u16, max_u32, max_u48}
use Rattle.dnw_zone_values.specs.Octets.{IsOctets, IsSalt}
use Rattle.dnw_zone_values.specs.Spelling.{ComesBack}
use Rattle.dnw_zone_values.specs.Strings.{IsString, IsText}
use Rattle.dnw_zone_data.specs.declared.error.DataTextError.{DataTextError}
use Rattle.dnw_zone_data.specs.declared.error.DataTextError.TheVariants.{Memory}
use Rattle.dnw_zone_data.specs.Generic.{generic_mark, generic_text, IsGeneric}
use Rattle.dnw_base.specs.Limits.{max_data}
use Rattle.dnw_zone_data.specs.declared.extent.Extent.TheVariants.{All}
use Rattle.dnw_zone_data.specs.declared.number_form.NumberForm.{NumberForm}
use Rattle.dnw_zone_data.specs.NumberForms.{number_forms}
use Rattle.dnw_zone_data.specs.Words.{is_end, word, after_spaces}
use Rattle.dnw_zone_data.specs.Gateways.{of_shape}
use Rattle.dnw_zone_data.specs.Printing.{Prints}
use Rattle.dnw_zone_data.specs.DataTexts.{ArePlain, FailsText, IsDataText, IsPlainData, IsTextOf}
use Rattle.dnw_zone_data.specs.Parsing.{extent_of, ReadsField}

-- octets of data: their number is written in two octets (RFC 1035, section 3.2.1)
abbrev pub IsDataOctets : List ℕ → Type 0
IsDataOctets own = IsOctets own × (length own ≤ max_data)

-- What is printed of any octets in the form that any data have is those octets, and no others.
abbrev pub GenericComesBack : Type 0
GenericComesBack = ComesBack IsDataOctets generic_text IsGeneric

-- what is after a field: white space or nothing, and nothing after a field that takes all words
abbrev pub FollowsField : Kind → List ℕ → Type 0
FollowsField kind rest = (extent_of kind ≡ All → rest ≡ []) × (is_end rest ≡ true)

-- A text is read as the field, and what follows is left. It begins with white space or is empty, and its first word is not the
-- one that the form of any data begins with; so it can be the first field of data, or follow another.
abbrev pub IsFieldReadBack : Option NameValue → NumberForm → Kind → List ℕ → FieldValue → List ℕ → Type 0
IsFieldReadBack origin way kind text value rest =
    ReadsField origin way kind (after_spaces (text ++ rest)) value rest × (word (after_spaces (text ++ rest)) ≢ generic_mark) × (is_end text ≡ true)

-- What is printed of a field of this kind with this value is read as it, whatever form its number may have.
abbrev pub FieldComesBack : Kind → FieldValue → Type 0
FieldComesBack kind value =
    (origin : Option NameValue) (way : NumberForm) (text rest : List ℕ) → Prints kind value text → FollowsField kind rest → IsFieldReadBack origin way kind text value rest

-- a type as it is read from its code
abbrev pub IsReadType : RecordType → Type 0
IsReadType kind = (code_of kind < 65536) × (type_of_code (code_of kind) ≡ kind)

-- Numbers, times, types and IPv4 addresses round-trip.
abbrev pub NumbersComeBack : Type 0
NumbersComeBack =
    ((n : ℕ) → n ≤ max_u8 → FieldComesBack U8 (u8 n)) × ((n : ℕ) → n ≤ max_u16 → FieldComesBack U16 (u16 n))
    × ((n : ℕ) → n ≤ max_u32 → FieldComesBack U32 (u32 n)) × ((n : ℕ) → n ≤ max_u32 → FieldComesBack Time (time n))

abbrev pub TypesComeBack : Type 0
TypesComeBack = (record_type : RecordType) → IsReadType record_type → FieldComesBack TypeCode (type_code record_type)

abbrev pub FieldAddressesComeBack : Type 0
FieldAddressesComeBack = (a : Ipv4Addr) → IsIpv4Addr a → FieldComesBack Ipv4 (ipv4 (ipv4_octets a))

-- Names round-trip, whose labels have octets.
abbrev pub FieldNamesComeBack : Type 0
FieldNamesComeBack = (form : NameForm) (labels : List (List ℕ)) → AreLabels labels → AllByRecursion IsOctets labels → FieldComesBack (kinds.Name form) (name labels)

-- IPv6 addresses, EUI-48 and EUI-64 round-trip.
abbrev pub SegmentsComeBack : Type 0
SegmentsComeBack = (a : Ipv6Addr) → IsIpv6Addr a → FieldComesBack Ipv6 (ipv6 (ipv6_segments a))

abbrev pub FieldIdentifiersComeBack : Type 0
FieldIdentifiersComeBack = ((n : ℕ) → n ≤ max_u48 → FieldComesBack U48 (u48 n)) × ((n : ℕ) → n < 2 ^ 64 → FieldComesBack U64 (u64 n))

-- Octets round-trip that have a length octet before them: strings, tags, salts and hashed names.
abbrev pub CountedComeBack : Type 0
CountedComeBack =
    ((own : List ℕ) → IsString own → FieldComesBack (Counted Text) (counted own)) × ((own : List ℕ) → FieldComesBack (Counted Tag) (counted own))
    × ((own : List ℕ) → IsSalt own → FieldComesBack (Counted Hex) (counted own))
    × ((own : List ℕ) → IsHash own → FieldComesBack (Counted Base32Hex) (counted own))

-- Octets up to the end round-trip, in hexadecimal, in base 64 and as text.
abbrev pub OctetsComeBack : Type 0
OctetsComeBack =
    ((own : List ℕ) → IsOctets own → FieldComesBack (Octets Hex) (octets own))
    × ((own : List ℕ) → IsOctets own → FieldComesBack (Octets Base64) (octets own))
    × ((own : List ℕ) → IsText own → FieldComesBack (Octets Text) (octets own))

-- Lists of types and of service parameters round-trip that can be read from data. A list of types is printed only if it is written
-- in as few octets as it can be.
abbrev pub ListsComeBack : Type 0
ListsComeBack =
    ((own : List ℕ) → IsOctets own → list_fault lists.Types own ≡ None → FieldComesBack (kinds.List lists.Types) (types (items lists.Types own)))
    × ((own : List ℕ) → IsOctets own → list_fault lists.Params own ≡ None → FieldComesBack (kinds.List lists.Params) (params (items lists.Params own)))

-- Identifiers of nodes, locators, numbers of nodes and addresses of NSAP round-trip.
abbrev pub FieldLocatorsComeBack : Type 0
FieldLocatorsComeBack =
    ((n : ℕ) → n < 2 ^ 64 → FieldComesBack Locator (u64 n)) × ((n : ℕ) → n < 2 ^ 64 → FieldComesBack NodeNumber (u64 n))
    × ((own : List ℕ) → IsOctets own → FieldComesBack (Octets Nsap) (octets own))

-- Lists of address prefixes round-trip, if each has a text.
abbrev pub FieldPrefixesComeBack : Type 0
FieldPrefixesComeBack = (own : List ℕ) → IsOctets own → FieldComesBack (kinds.List lists.Prefixes) (prefixes (items lists.Prefixes own))

-- Bitmaps of ports, and of types without windows, round-trip, if they have a text.
abbrev pub FieldBitmapsComeBack : Type 0
FieldBitmapsComeBack =
    ((own : List ℕ) → IsOctets own → FieldComesBack (Octets Ports) (octets own))
    × ((own : List ℕ) → IsOctets own → FieldComesBack (Octets OldTypes) (octets own))

-- Strings up to the end round-trip, one or more, with no more octets than data may have.
abbrev pub StringsComeBack : Type 0
StringsComeBack = (own : List ℕ) → IsOctets own → 1 ≤ length own → length own ≤ max_data → FieldComesBack (kinds.List lists.Texts) (texts (items lists.Texts own))

-- Gateways, relays and host identities round-trip, if they have a text.
abbrev pub ShapesComeBack : Type 0
ShapesComeBack = (shape : Shape) (own : List ℕ) → IsOctets own → FieldComesBack (kinds.Shaped shape) (of_shape shape own)

-- Names up to the end round-trip, none or more.
abbrev pub NameListsComeBack : Type 0
NameListsComeBack = (own : List ℕ) → IsOctets own → FieldComesBack (kinds.List lists.Names) (names (items lists.Names own))

-- What is printed of data in their type's own form is parsed as their octets, with names that are not compressed, if these are not
-- more than data may have. Names are printed whole, so the origin does not matter. What is printed in the form that any data have
-- is those octets too; it is parsed if they are data of the type.
abbrev pub DataComeBack : Type 0
DataComeBack = (origin : Option NameValue) (r : RecordValue) (text : List ℕ) → AreBytes r.message → IsDataText r text
    → (own : List ℕ) × IsPlainData r own
    × ((max_data < length own) ⊎ IsGeneric text own ⊎ IsTextOf origin (number_forms (code_of r.record_type)) (fields_of (class_code r.class) (code_of r.record_type)) text own)

-- If a text is data of a type, parsing it fails for no other reason than memory.
abbrev pub TextsAreParsed : Type 0
TextsAreParsed = (origin : Option NameValue) (ways : List NumberForm) (fields : List ℕ → List Kind) (len : ℕ) (text own : List ℕ) (error : DataTextError)
    → IsTextOf origin ways fields text own → FailsText origin ways fields len text error → error ≡ Memory

-- If a text is octets in the form that any data have, parsing it fails for no other reason than memory, or that they are no data of
-- the type.
abbrev pub GenericIsParsed : Type 0
GenericIsParsed = (origin : Option NameValue) (ways : List NumberForm) (fields : List ℕ → List Kind) (len : ℕ) (text own : List ℕ) (error : DataTextError)
    → IsGeneric text own → FailsText origin ways fields len text error → (error ≡ Memory) ⊎ (¬ (ArePlain (fields own) own))

-- No text is two lists of octets. A bitmap of types does not say that its items are below 256, so the law supposes it.
abbrev pub DataAreUnambiguous : Type 0
DataAreUnambiguous = (origin : Option NameValue) (ways : List NumberForm) (fields : List ℕ → List Kind) (text own other : List ℕ) → IsOctets own → IsOctets other
    → IsTextOf origin ways fields text own → IsTextOf origin ways fields text other → own ≡ other

-- What is parsed of data that were printed are their octets, with names that are not compressed, if these are not more than data
-- may have.
abbrev pub PrintedDataAreSame : Type 0
PrintedDataAreSame = (origin : Option NameValue) (r : RecordValue) (text own : List ℕ) → AreBytes r.message → IsDataText r text → IsOctets own
    → IsTextOf origin (number_forms (code_of r.record_type)) (fields_of (class_code r.class) (code_of r.record_type)) text own
    → IsPlainData r own ⊎ ((long : List ℕ) × IsPlainData r long × (max_data < length long))
