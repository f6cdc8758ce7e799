-- What follows from the definition of the pieces of data. It is the clause of a public function, and so proved.
use Rattle.std.specs.Prelude.{◌≡◌, ℕ, None, List, [], ◌∷◌}
use Rattle.dnw_data.specs.declared.kind.Kind.{Kind}
use Rattle.dnw_data.specs.Values.{FieldValue, name, own_value}
use Rattle.dnw_data.specs.Walks.{FieldsAre}
use Rattle.dnw_record.specs.DataPieces.{DataPiece, HasPieces, name_piece, octets_piece}
use Rattle.dnw_record.specs.DataCopies.{alone}

-- the value of the field that a piece is
abbrev pub piece_value : Kind → DataPiece → FieldValue
piece_value kind (name_piece form labels) = name labels
piece_value kind (octets_piece own) = own_value kind own

abbrev pub piece_values : List Kind → List DataPiece → List FieldValue
piece_values [] pieces = []
piece_values (kind ∷ kinds) [] = []
piece_values (kind ∷ kinds) (piece ∷ pieces) = piece_value kind piece ∷ piece_values kinds pieces

-- The octets of data have pieces in one way, and their fields are the values of these, with no error.
abbrev pub DataHaveFields : Type 0
DataHaveFields = (kinds : List Kind) (octets : List ℕ) (pieces : List DataPiece) → HasPieces kinds octets pieces
    → FieldsAre 0 kinds (alone octets) (piece_values kinds pieces) None
    × ((others : List DataPiece) → HasPieces kinds octets others → others ≡ pieces)
