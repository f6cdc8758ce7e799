-- The octets of the data of a record, with every name in its wire form: they are made of pieces, one for each field.
use Rattle.std.specs.Prelude.{◌≡◌, ℕ, None, List, [], ◌∷◌, ◌++◌, length}
use Rattle.std.specs.List.{flat_map}
use Rattle.dnw_base.specs.declared.dns_class.DNSClass.{DNSClass}
use Rattle.dnw_base.specs.declared.record_type.RecordType.{RecordType}
use Rattle.dnw_base.specs.DnsClasses.{class_code}
use Rattle.dnw_base.specs.RecordTypes.{type_code}
use Rattle.dnw_base.specs.Names.{AreLabels, wire}
use Rattle.dnw_data.specs.declared.kind.Kind.{Kind}
use Rattle.dnw_data.specs.declared.kind.Kind.TheVariants.{Name}
use Rattle.dnw_data.specs.declared.kind.NameForm.{NameForm}
use Rattle.dnw_data.specs.Table.{fields_of}
use Rattle.dnw_data.specs.Values.{own_fault, own_size}

-- A piece of data: the labels of a name, and how it is written in a message; or the octets of a field that is no name.
pub data DataPiece : Type 0 where
  name_piece : NameForm → List (List ℕ) → DataPiece
  octets_piece : List ℕ → DataPiece

-- its octets: those of a name are its wire form
abbrev pub piece_octets : DataPiece → List ℕ
piece_octets (name_piece form labels) = wire labels
piece_octets (octets_piece own) = own

abbrev pub octets_of : List DataPiece → List ℕ
octets_of pieces = flat_map piece_octets pieces

-- A piece is a field of this kind, if these octets follow up to the end of the data.
abbrev pub IsPieceOf : Kind → DataPiece → List ℕ → Type 0
IsPieceOf (Name form) (name_piece own labels) rest = (own ≡ form) × AreLabels labels
IsPieceOf (Name form) (octets_piece own) rest = ⊥
IsPieceOf kind (name_piece form labels) rest = ⊥
IsPieceOf kind (octets_piece own) rest = (length own ≡ own_size kind (own ++ rest)) × (own_fault kind own ≡ None)

-- Pieces are fields of these kinds, one after another.
abbrev pub ArePiecesOf : List Kind → List DataPiece → Type 0
ArePiecesOf [] [] = Unit {0}
ArePiecesOf [] (piece ∷ pieces) = ⊥
ArePiecesOf (kind ∷ kinds) [] = ⊥
ArePiecesOf (kind ∷ kinds) (piece ∷ pieces) = IsPieceOf kind piece (octets_of pieces) × ArePiecesOf kinds pieces

-- These pieces are fields of these kinds, and the octets are theirs.
pub record HasPieces (kinds : List Kind) (octets : List ℕ) (pieces : List DataPiece) : Type 0 where
  pub are : ArePiecesOf kinds pieces
  pub whole : octets ≡ octets_of pieces

-- The octets are data of fields of these kinds, with every name in its wire form.
abbrev pub IsData : List Kind → List ℕ → Type 0
IsData kinds octets = (pieces : List DataPiece) × HasPieces kinds octets pieces

-- the kinds of the fields of these data, by class and type
abbrev pub kinds_of : DNSClass → RecordType → List ℕ → List Kind
kinds_of class record_type octets = fields_of (class_code class) (type_code record_type) octets

-- The data of a record: its class, its type, and their octets.
pub record DataValue : Type 0 where
  pub class : DNSClass
  pub record_type : RecordType
  pub octets : List ℕ

-- the kinds of their fields
abbrev pub data_kinds : DataValue → List Kind
data_kinds x = kinds_of x.class x.record_type x.octets

-- They are data of their class and type.
abbrev pub IsDataOfType : DataValue → Type 0
IsDataOfType x = IsData (data_kinds x) x.octets
