-- Data of records as pieces: which of their names may be compressed (RFC 3597, section 4), by the table of the fields of each type.
use Rattle.std.specs.Prelude.{◌≡◌, ℕ, ◌+◌, Bool, true, false, ◌||◌, List, [], ◌∷◌, ◌++◌, length}
use Rattle.std.specs.List.{flat_map}
use Rattle.dnw_base.specs.Names.{AreLabels, wire}
use Rattle.dnw_data.specs.declared.kind.Kind.{Kind}
use Rattle.dnw_data.specs.declared.kind.Kind.TheVariants as kinds
use Rattle.dnw_data.specs.declared.kind.NameForm.TheVariants.{Compressible}
use Rattle.dnw_record.specs.DataPieces.{DataPiece, HasPieces, name_piece, octets_of, octets_piece}
use Rattle.dnw_message_writer.specs.declared.pieces.Piece.{Piece}
use Rattle.dnw_message_writer.specs.declared.pieces.Piece.TheVariants.{Octets, Name}

-- the octets of a piece, a name in its wire form
abbrev pub whole_octets : Piece → List ℕ
whole_octets (Octets bytes) = bytes.now
whole_octets (Name ls) = wire ls

-- The octets do not begin with the wire form of a name.
abbrev pub StartsNoName : List ℕ → Type 0
StartsNoName octets = (ls : List (List ℕ)) (rest : List ℕ) → AreLabels ls → octets ≡ wire ls ++ rest → ⊥

-- a field of this kind is a name that may be compressed
abbrev pub is_to_compress : Kind → Bool
is_to_compress (kinds.Name Compressible) = true
is_to_compress kind = false

-- one of these is
abbrev pub are_to_compress : List Kind → Bool
are_to_compress [] = false
are_to_compress (kind ∷ others) = is_to_compress kind || are_to_compress others

-- the names among pieces, each with the number of the octets before it, if so many are before all
abbrev pub names_among : ℕ → List Piece → List (ℕ × List (List ℕ))
names_among at [] = []
names_among at (Octets bytes ∷ xs) = names_among (at + length bytes.now) xs
names_among at (Name ls ∷ xs) = (at, ls) ∷ names_among (at + length (wire ls)) xs

-- so the names that may be compressed among fields
abbrev pub names_to_compress : ℕ → List DataPiece → List (ℕ × List (List ℕ))
names_to_compress at [] = []
names_to_compress at (octets_piece own ∷ fields) = names_to_compress (at + length own) fields
names_to_compress at (name_piece Compressible ls ∷ fields) = (at, ls) ∷ names_to_compress (at + length (wire ls)) fields
names_to_compress at (name_piece form ls ∷ fields) = names_to_compress (at + length (wire ls)) fields

-- The pieces are these fields: they are the same octets, if every name is in its wire form, and the names among them are those that
-- may be compressed.
pub record AreOfFields (fields : List DataPiece) (xs : List Piece) : Type 0 where
  pub whole : flat_map whole_octets xs ≡ octets_of fields
  pub names : (at : ℕ) → names_among at xs ≡ names_to_compress at fields

-- The octets are data with fields of these kinds, every name in its wire form, and the pieces are theirs.
abbrev pub AreOfData : List Kind → List ℕ → List Piece → Type 0
AreOfData kinds octets xs = (fields : List DataPiece) × HasPieces kinds octets fields × AreOfFields fields xs
