-- Data that are copied field by field.
use Rattle.std.specs.Prelude.{◌≡◌, ℕ, ◌+◌, ◌≤◌, Option, List, ◌++◌, length}
use Rattle.dnw_base.specs.declared.error.DecodeError.{DecodeError}
use Rattle.dnw_base.specs.Decoder.{Decoder}
use Rattle.dnw_data.specs.declared.kind.Kind.{Kind}
use Rattle.dnw_data.specs.declared.kind.Kind.TheVariants.{Name}
use Rattle.dnw_data.specs.Values.{FieldValue}
use Rattle.dnw_data.specs.Walks.{FieldsAre}
use Rattle.dnw_record.specs.DataPieces.{DataPiece, octets_of}
use Rattle.dnw_record.specs.DataCopies.{TakesPieces}

-- a field of this kind is no name
abbrev pub IsNoName : Kind → Type 0
IsNoName (Name form) = ⊥
IsNoName kind = Unit {0}

-- Some pieces are copied. What is left from here on, after them, is what all is from the start.
pub record IsCopying (kinds : List Kind) (start : Decoder) (before : List ℕ) (left : List Kind) (d : Decoder) (octets : List ℕ) : Type 0 where
  pub done : List DataPiece
  pub read : List FieldValue
  pub copied : octets ≡ before ++ octets_of done
  pub count : length read + length left ≡ length kinds
  pub order : start.index ≤ d.index
  pub same : d.bytes ≡ start.bytes
  pub pieces : (more : List DataPiece) → TakesPieces left d more → TakesPieces kinds start (done ++ more)
  pub fields : (more : List FieldValue) (outcome : Option DecodeError) → FieldsAre start.index left d more outcome
      → FieldsAre start.index kinds start (read ++ more) outcome
