-- The data of a record are copied from a message, where names may have pointers.
use Rattle.std.specs.Prelude.{◌≡◌, ℕ, None, Some, List, [], ◌∷◌, drop, length}
use Rattle.dnw_base.specs.declared.dns_class.DNSClass.{DNSClass}
use Rattle.dnw_base.specs.declared.record_type.RecordType.{RecordType}
use Rattle.dnw_base.specs.Decoder.{Decoder, HasLeft, advanced}
use Rattle.dnw_name_read.specs.Reading.{TakesName}
use Rattle.dnw_data.specs.declared.kind.Kind.{Kind}
use Rattle.dnw_data.specs.declared.kind.Kind.TheVariants.{Name}
use Rattle.dnw_data.specs.declared.kind.NameForm.{NameForm}
use Rattle.dnw_data.specs.Fields.{FailsField, own_at, size_at}
use Rattle.dnw_data.specs.Values.{FieldValue, own_fault}
use Rattle.dnw_data.specs.Walks.{FieldsAre, IsAtEnd}
use Rattle.dnw_record.specs.Records.{RecordValue}
use Rattle.dnw_record.specs.RecordFields.{record_fields}
use Rattle.dnw_record.specs.declared.rdata.RDataError.{RDataError}
use Rattle.dnw_record.specs.declared.rdata.RDataError.TheVariants.{Field, Memory}
use Rattle.dnw_record.specs.DataPieces.{DataPiece, kinds_of, name_piece, octets_of, octets_piece}

-- data that stand alone, from their start
abbrev pub alone : List ℕ → Decoder
alone octets = record { bytes = octets; index = 0 }

-- the kinds of the fields of data that start there, by class and type
abbrev pub kinds_at : DNSClass → RecordType → Decoder → List Kind
kinds_at class record_type d = kinds_of class record_type (drop d.index d.bytes)

-- the data of a record of a message, from their start
abbrev pub data_start : RecordValue → Decoder
data_start record_value = (record_fields record_value).reader

-- the kinds of their fields
abbrev pub record_kinds : RecordValue → List Kind
record_kinds record_value = (record_fields record_value).kinds

-- A name is read, and this is its piece.
abbrev pub TakesNamePiece : NameForm → Decoder → DataPiece → Decoder → Type 0
TakesNamePiece form before piece after = (labels : List (List ℕ)) × (k : ℕ) × TakesName before after labels k × (piece ≡ name_piece form labels)

-- The octets of a field of this kind are left, and they are this piece.
abbrev pub TakesOwnPiece : Kind → Decoder → DataPiece → Decoder → Type 0
TakesOwnPiece kind before piece after =
    HasLeft before (size_at kind before) × (own_fault kind (own_at kind before) ≡ None) × (piece ≡ octets_piece (own_at kind before))
    × (after ≡ advanced before (size_at kind before))

-- The decoder was at a field of this kind, whose piece this is, and is after it now.
abbrev pub TakesPiece : Kind → Decoder → DataPiece → Decoder → Type 0
TakesPiece (Name form) before piece after = TakesNamePiece form before piece after
TakesPiece kind before piece after = TakesOwnPiece kind before piece after

-- The fields of these kinds are read up to the end, and these are their pieces.
abbrev pub TakesPieces : List Kind → Decoder → List DataPiece → Type 0
TakesPieces [] d [] = IsAtEnd d
TakesPieces [] d (piece ∷ pieces) = ⊥
TakesPieces (kind ∷ kinds) d [] = ⊥
TakesPieces (kind ∷ kinds) d (piece ∷ pieces) = (after : Decoder) × TakesPiece kind d piece after × TakesPieces kinds after pieces

-- The octets are those of the fields that are read there, with every name in its wire form.
abbrev pub Copies : List Kind → Decoder → List ℕ → Type 0
Copies kinds d octets = (pieces : List DataPiece) × TakesPieces kinds d pieces × (octets ≡ octets_of pieces)

-- There is no field of this kind, which has this number; or memory ran out.
abbrev pub FailsPiece : Kind → ℕ → Decoder → RDataError → Type 0
FailsPiece kind number d (Field error) = (error.field ≡ number) × FailsField kind d error.cause
FailsPiece kind number d Memory = Unit {0}

-- Why data that start there are not copied: the first field that is none, with its number; or memory ran out.
abbrev pub FailsToCopy : List Kind → Decoder → RDataError → Type 0
FailsToCopy kinds d (Field error) =
    (values : List FieldValue) × (length values ≡ error.field) × FieldsAre d.index kinds d values (Some error.cause)
FailsToCopy kinds d Memory = Unit {0}
