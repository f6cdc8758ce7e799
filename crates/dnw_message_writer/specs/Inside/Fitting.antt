-- Pieces that have room for all of their octets, with their names whole.
use Rattle.std.specs.Prelude.{ℕ, ◌-◌, ◌≤◌, ⊤, List, [], ◌∷◌, length}
use Rattle.dnw_base.specs.Names.{AreLabels, wire}
use Rattle.dnw_message_writer.specs.declared.pieces.Piece.{Piece}
use Rattle.dnw_message_writer.specs.declared.pieces.Piece.TheVariants.{Octets, Name}

abbrev pub whole_size : Piece → ℕ
whole_size (Octets bytes) = length bytes.now
whole_size (Name ls) = length (wire ls)

-- Its name, if it is one, has labels that fit into a name.
abbrev pub HasLabels : Piece → Type 0
HasLabels (Octets bytes) = ⊤
HasLabels (Name ls) = AreLabels ls

abbrev pub FitWhole : ℕ → List Piece → Type 0
FitWhole room [] = ⊤
FitWhole room (x ∷ xs) = HasLabels x × (whole_size x ≤ room) × FitWhole (room - whole_size x) xs
