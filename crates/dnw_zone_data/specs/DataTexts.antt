-- The text of the data of a record: its fields' text, or the form that any data have (RFC 3597, section 5) if they are no
-- fields of their type, or if a field or the type has no text.
use Rattle.std.specs.Prelude.{◌≡◌, ◌≢◌, ℕ, ◌-◌, ◌==◌, ◌⊎◌, ◌&&◌, not, Bool, true, false, List, [], ◌∷◌, ◌++◌, length, flat_map, if◌then◌else◌, Option}
use Rattle.dnw_base.specs.declared.error.DecodeError.{DecodeError}
use Rattle.dnw_base.specs.Decoder.{Decoder}
use Rattle.dnw_base.specs.RecordTypes.{type_code}
use Rattle.dnw_base.specs.Names.{NameValue}
use Rattle.dnw_data.specs.declared.kind.Kind.{Kind}
use Rattle.dnw_data.specs.declared.kind.Kind.TheVariants.{LongTime, ChaosAddress, LongCounted, Shaped, Octets}
use Rattle.dnw_data.specs.declared.kind.Shape.TheVariants.{AddressSuffix}
use Rattle.dnw_data.specs.declared.kind.Shown.TheVariants.{Hex, MaybeBase64}
use Rattle.std.specs.List.{list_all, list_any}
use Rattle.dnw_data.specs.Values.{FieldValue}
use Rattle.dnw_data.specs.Fields.{TakesField, FailsField}
use Rattle.dnw_data.specs.Walks.{IsAtEnd, FieldsLeft}
use Rattle.dnw_record.specs.Records.{RecordValue, data_octets}
use Rattle.dnw_record.specs.RecordFields.{record_fields}
use Rattle.dnw_zone_data.specs.declared.error.DataTextError.{DataTextError}
use Rattle.dnw_zone_data.specs.declared.error.DataTextError.TheVariants.{Memory}
use Rattle.dnw_zone_data.specs.declared.error.Wanted.TheVariants.{Data, Generic}
use Rattle.dnw_zone_data.specs.declared.number_form.NumberForm.{NumberForm}
use Rattle.dnw_zone_data.specs.Faults.{fault}
use Rattle.dnw_zone_data.specs.Words.{after_spaces, word, after_word}
use Rattle.dnw_zone_data.specs.Generic.{generic_mark, generic_text, hex_words, IsGeneric, IsSized, FailsSized}
use Rattle.dnw_zone_data.specs.Printing.{PrintsFields, HasNoText}
use Rattle.dnw_zone_data.specs.Parsing.{AreFieldTexts, FailsFields}
use Rattle.dnw_data.specs.FieldWires.{IsLong, field_wire}

-- kinds whose text is written here
abbrev pub has_field_text : Kind → Bool
has_field_text LongTime = false
has_field_text ChaosAddress = false
has_field_text (LongCounted shown) = false
has_field_text (Shaped AddressSuffix) = false
has_field_text (Octets MaybeBase64) = false
has_field_text kind = true

-- data of these kinds are octets alone
abbrev pub is_octets : List Kind → Bool
is_octets (Octets Hex ∷ []) = true
is_octets kinds = false

-- Data that are octets alone have no form of their own, nor have those with a field of another kind that is not written.
abbrev pub has_own_form : List Kind → Bool
has_own_form kinds = not (is_octets kinds) && list_all has_field_text kinds

-- ---- the octets of data, with names that are not compressed

-- The data are fields of these kinds, and these octets.
abbrev pub AreWire : List Kind → Decoder → List ℕ → Type 0
AreWire [] d own = IsAtEnd d × (own ≡ [])
AreWire (kind ∷ kinds) d own =
    (value : FieldValue) × (after : Decoder) × (others : List ℕ) × TakesField kind d value after × AreWire kinds after others
    × (own ≡ field_wire value ++ others)

-- A field cannot be read.
abbrev pub AreNoFields : List Kind → Decoder → Type 0
AreNoFields [] d = ¬ (IsAtEnd d)
AreNoFields (kind ∷ kinds) d =
    ((error : DecodeError) × FailsField kind d error)
    ⊎ ((value : FieldValue) × (after : Decoder) × TakesField kind d value after × (IsLong value ⊎ AreNoFields kinds after))

-- the octets of the fields, or those of the message if the data are no fields of their type
abbrev pub IsPlainData : RecordValue → List ℕ → Type 0
IsPlainData r own =
    AreWire (record_fields r).kinds (record_fields r).reader own
    ⊎ (AreNoFields (record_fields r).kinds (record_fields r).reader × (own ≡ data_octets r))

-- Octets are data of these kinds without pointers: the fields that are read from them alone are, uncompressed, these octets.
abbrev pub ArePlain : List Kind → List ℕ → Type 0
ArePlain kinds own = AreWire kinds (record { bytes = own; index = 0 }) own

-- ---- printing

-- a text without the space that it may begin with
abbrev pub without_space : List ℕ → List ℕ
without_space [] = []
without_space (c ∷ cs) = if c == 32 then cs else c ∷ cs

abbrev pub has_fields : List Kind → Bool
has_fields [] = false
has_fields (kind ∷ kinds) = true

-- A text without a word is that of data that are left out, and of no others.
abbrev pub is_blank : List Kind → List ℕ → Bool
is_blank kinds text = has_fields kinds && length (after_spaces text) == 0

-- the text of the fields
abbrev pub IsOwnText : FieldsLeft → List ℕ → Type 0
IsOwnText left text =
    (has_own_form left.kinds ≡ true) × (own : List ℕ) × PrintsFields left.kinds left.reader own × (is_blank left.kinds own ≡ false)
    × (text ≡ without_space own)

-- there is none
abbrev pub LacksText : FieldsLeft → Type 0
LacksText left =
    (has_own_form left.kinds ≡ false) ⊎ HasNoText left.kinds left.reader
    ⊎ ((own : List ℕ) × PrintsFields left.kinds left.reader own × (is_blank left.kinds own ≡ true))

-- Types of which many servers know no text: X25, ISDN, NSAP-PTR, GPOS, DHCID, NINFO, RKEY, TALINK,
-- DSYNC, HHIT, BRID, L32, LP, AVC, AMTRELAY, RESINFO, WALLET, CLA, IPN, TA and DLV.
abbrev pub little_known : List ℕ
little_known =
    19 ∷ 20 ∷ 23 ∷ 27 ∷ 49 ∷ 56 ∷ 57 ∷ 58 ∷ 66 ∷ 67 ∷ 68 ∷ 105 ∷ 107 ∷ 258 ∷ 260 ∷ 261 ∷ 262 ∷ 263 ∷ 264 ∷ 32768 ∷ 32769 ∷ []

unfoldable pub is_little_known : ℕ → Bool
is_little_known code = list_any (λ known. known == code) little_known

-- data of this record's type have no form that is printed; data that are left out have no need of one
abbrev pub is_unprinted : RecordValue → Bool
is_unprinted r = is_little_known (type_code r.record_type) && has_fields (record_fields r).kinds

-- the text of the data of a record: of a type that is little known it is in the form of any data, which each server reads
-- (RFC 3597, section 5)
abbrev pub IsDataText : RecordValue → List ℕ → Type 0
IsDataText r text =
    ((is_unprinted r ≡ false) × IsOwnText (record_fields r) text)
    ⊎ (((is_unprinted r ≡ true) ⊎ LacksText (record_fields r)) × (own : List ℕ) × IsPlainData r own × (text ≡ generic_text own))

-- ---- parsing

-- the text is these octets, in the type's own form
abbrev pub IsFieldsText : Option NameValue → List NumberForm → List Kind → List ℕ → List ℕ → Type 0
IsFieldsText origin ways kinds text own =
    (word (after_spaces text) ≢ generic_mark) × (has_own_form kinds ≡ true) × (values : List FieldValue) × AreFieldTexts origin ways kinds text values
    × (own ≡ flat_map field_wire values)

-- the text is these octets in the form that any data have, and they are data of the type, without pointers: nothing is said in
-- that form that could not be said in the type's own, and it can be copied into any message (RFC 3597, sections 4 and 5)
abbrev pub IsGenericData : List Kind → List ℕ → List ℕ → Type 0
IsGenericData kinds text own = IsGeneric text own × ArePlain kinds own

-- octets in place of those that a text in the type's own form is, as far as the kinds of fields go by them: none if there is no
-- word, else one
abbrev pub stand_in : List ℕ → List ℕ
stand_in [] = []
stand_in (c ∷ cs) = 1 ∷ []

-- the kinds of the fields of a text in the type's own form, if data have fields of these kinds by their octets
abbrev pub text_kinds : (List ℕ → List Kind) → List ℕ → List Kind
text_kinds fields text = fields (stand_in (after_spaces text))

-- the text is these octets, as data with fields of these kinds, whose numbers are in these forms
abbrev pub IsTextOf : Option NameValue → List NumberForm → (List ℕ → List Kind) → List ℕ → List ℕ → Type 0
IsTextOf origin ways fields text own = IsGenericData (fields own) text own ⊎ IsFieldsText origin ways (text_kinds fields text) text own

-- why what is after `\#` is no data of a type, in a text of this length: no number and octets, or the octets are no such data
abbrev pub FailsGeneric : (List ℕ → List Kind) → ℕ → List ℕ → DataTextError → Type 0
FailsGeneric fields len left e =
    FailsSized len left e ⊎ (e ≡ Memory)
    ⊎ ((own : List ℕ) × IsSized left own × (¬ (ArePlain (fields own) own)) × (e ≡ fault 1 (len - length (hex_words left)) Data))

-- why a text is no data of a type, at the end of a line of this length
abbrev pub FailsText : Option NameValue → List NumberForm → (List ℕ → List Kind) → ℕ → List ℕ → DataTextError → Type 0
FailsText origin ways fields len text e =
    let kinds = text_kinds fields text in
    ((word (after_spaces text) ≡ generic_mark) × FailsGeneric fields len (after_word (after_spaces text)) e)
    ⊎ ((word (after_spaces text) ≢ generic_mark) × (has_own_form kinds ≡ false) × (e ≡ fault 0 (len - length (after_spaces text)) Generic))
    ⊎ ((word (after_spaces text) ≢ generic_mark) × (has_own_form kinds ≡ true) × ((e ≡ Memory) ⊎ FailsFields origin (length kinds) len ways kinds text e))
