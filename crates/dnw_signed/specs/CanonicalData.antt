-- The data of a record in canonical form (RFC 4034, section 6.2, and RFC 6840, section 5.1): names in their wire form, and in
-- lower case if the type is one of those that these sections list.
use Rattle.std.specs.Prelude.{◌≡◌, ℕ, List, map}
use Rattle.dnw_base.specs.Names.{lower}
use Rattle.dnw_base.specs.Decoder.{Decoder}
use Rattle.dnw_data.specs.declared.kind.Kind.{Kind}
use Rattle.dnw_data.specs.declared.kind.NameForm.{NameForm}
use Rattle.dnw_data.specs.declared.kind.NameForm.TheVariants.{Plain}
use Rattle.dnw_record.specs.Records.{RecordValue}
use Rattle.dnw_record.specs.DataCopies.{FailsToCopy, TakesPieces, data_start, record_kinds}
use Rattle.dnw_record.specs.DataPieces.{DataPiece, DataValue, HasPieces, data_kinds, name_piece, octets_of, octets_piece}
use Rattle.dnw_record.specs.declared.rdata.RDataError.{RDataError}

-- the labels of a name of this form
abbrev pub canonical_labels : NameForm → List (List ℕ) → List (List ℕ)
canonical_labels Plain labels = labels
canonical_labels form labels = lower labels

abbrev pub canonical_piece : DataPiece → DataPiece
canonical_piece (name_piece form labels) = name_piece form (canonical_labels form labels)
canonical_piece (octets_piece own) = octets_piece own

abbrev pub canonical_pieces : List DataPiece → List DataPiece
canonical_pieces pieces = map canonical_piece pieces

-- The octets are those of the data in canonical form.
abbrev pub IsCanonical : DataValue → List ℕ → Type 0
IsCanonical x octets = (pieces : List DataPiece) × HasPieces (data_kinds x) x.octets pieces × (octets ≡ octets_of (canonical_pieces pieces))

-- The fields of these kinds are read from here up to the end, where names may have pointers, and the octets are theirs in
-- canonical form.
abbrev pub ReadsCanonical : List Kind → Decoder → List ℕ → Type 0
ReadsCanonical kinds d octets = (pieces : List DataPiece) × TakesPieces kinds d pieces × (octets ≡ octets_of (canonical_pieces pieces))

-- The octets are those of the data of a record of a message, in canonical form.
abbrev pub IsCanonicalOf : RecordValue → List ℕ → Type 0
IsCanonicalOf r octets = ReadsCanonical (record_kinds r) (data_start r) octets

-- The data of a record of a message are no fields of its class and type; or memory ran out.
abbrev pub FailsCanonical : RecordValue → RDataError → Type 0
FailsCanonical r error = FailsToCopy (record_kinds r) (data_start r) error
