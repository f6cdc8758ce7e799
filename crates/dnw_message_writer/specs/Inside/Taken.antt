-- Data of records of other messages, taken as pieces.
use Rattle.std.specs.Prelude.{ℕ, List}
use Rattle.dnw_base.specs.Decoder.{Decoder}
use Rattle.dnw_base.specs.DnsClasses.{class_code}
use Rattle.dnw_base.specs.RecordTypes.{type_code}
use Rattle.dnw_data.specs.Table.{fields_of}
use Rattle.dnw_data.specs.declared.kind.Kind.{Kind}
use Rattle.dnw_record.specs.DataCopies.{Copies, TakesPieces, data_start, record_kinds}
use Rattle.dnw_record.specs.DataPieces.{DataPiece}
use Rattle.dnw_record.specs.Records.{RecordValue}
use Rattle.dnw_message_writer.specs.Data.{AreOfData, AreOfFields}
use Rattle.dnw_message_writer.specs.declared.pieces.Piece.{Piece}

-- Fields of these kinds are read there up to the end, and the pieces are theirs.
abbrev pub TakesAsPieces : List Kind → Decoder → List Piece → Type 0
TakesAsPieces kinds d xs = (fields : List DataPiece) × TakesPieces kinds d fields × AreOfFields fields xs

-- The pieces are those of the data of a record, copied with every name whole.
abbrev pub IsCopiedIn : RecordValue → List Piece → Type 0
IsCopiedIn x xs =
    (own : List ℕ) × Copies (record_kinds x) (data_start x) own
    × AreOfData (fields_of (class_code x.class) (type_code x.record_type) own) own xs
