-- Records whose data are given with their names whole.
use Rattle.std.proofs.Common.{ℕ, ◌+◌, List, [], ◌∷◌, length, sym, subst}
use Rattle.std.specs.List.{AllByRecursion}
use Rattle.dnw_base.specs.Names.{AreLabels, wire}
use Rattle.dnw_data.specs.declared.kind.Kind.{Kind}
use Rattle.dnw_data.specs.declared.kind.Kind.TheVariants.{Name as name_kind}
use Rattle.dnw_data.specs.declared.kind.NameForm.TheVariants.{Compressible, Lowered, Plain}
use Rattle.dnw_record.specs.DataPieces.{ArePiecesOf, DataPiece, name_piece, octets_piece}
use Rattle.dnw_message_writer.specs.ContentLaws.{GivenRecordsAreAdded}
use Rattle.dnw_message_writer.specs.Data.{AreOfData, names_among, names_to_compress}
use Rattle.dnw_message_writer.specs.Inside.Fitting.{HasLabels}
use Rattle.dnw_message_writer.specs.declared.pieces.Piece.{Piece}
use Rattle.dnw_message_writer.specs.declared.pieces.Piece.TheVariants.{Octets, Name}
use Rattle.dnw_message_writer.proofs.ContentsBack.{records_are_added}

-- These are names.
abbrev AreNames : List (ℕ × List (List ℕ)) → Type 0
AreNames [] = Unit {0}
AreNames ((o, ls) ∷ names) = AreLabels ls × AreNames names

fields_named : (kinds : List Kind) (fs : List DataPiece) (o : ℕ) → ArePiecesOf kinds fs → AreNames (names_to_compress o fs)
fields_named [] [] o are = tt
fields_named [] (f ∷ fs) o are = absurd are
fields_named (kind ∷ kinds) [] o are = absurd are
fields_named (kind ∷ kinds) (octets_piece own ∷ fs) o are = fields_named kinds fs (o + length own) are.1
fields_named (name_kind form ∷ kinds) (name_piece Compressible labels ∷ fs) o are = (are.0.1, fields_named kinds fs (o + length (wire labels)) are.1)
fields_named (name_kind form ∷ kinds) (name_piece Lowered labels ∷ fs) o are = fields_named kinds fs (o + length (wire labels)) are.1
fields_named (name_kind form ∷ kinds) (name_piece Plain labels ∷ fs) o are = fields_named kinds fs (o + length (wire labels)) are.1
fields_named (kind ∷ kinds) (name_piece form labels ∷ fs) o are = absurd are.0

pieces_named : (xs : List Piece) (o : ℕ) → AreNames (names_among o xs) → AllByRecursion HasLabels xs
pieces_named [] o names = tt
pieces_named (Octets bytes ∷ xs) o names = (tt, pieces_named xs (o + length bytes.now) names)
pieces_named (Name ls ∷ xs) o names = (names.0, pieces_named xs (o + length (wire ls)) names.1)

pub given_labels : (kinds : List Kind) (given : List ℕ) (xs : List Piece) → AreOfData kinds given xs → AllByRecursion HasLabels xs
given_labels kinds given xs (fs, has, are) = pieces_named xs 0 (subst AreNames (sym (are.names 0)) (fields_named kinds fs 0 has.are))

pub given_records_are_added : GivenRecordsAreAdded
given_records_are_added slot id flags c s r given w v old new h some fits are (octets, hints, (xs, of_data, is), limit, room, new_is, after_is) = (
  xs,
  of_data,
  records_are_added slot id flags c s (record r { pieces = xs }) w v old new h some fits are (given_labels _ given xs of_data)
      (octets, hints, is, limit, room, new_is, after_is),
)
