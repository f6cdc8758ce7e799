-- Pieces of an item, written one after the other: octets as they are, and names.
use Rattle.std.specs.Prelude.{◌≡◌, ℕ, ◌+◌, ◌<◌, ◌⊎◌, List, [], ◌∷◌, ◌++◌, length}
use Rattle.dnw_message_writer.specs.CompressedNames.{Compresses}
use Rattle.dnw_message_writer.specs.declared.pieces.Piece.{Piece}
use Rattle.dnw_message_writer.specs.declared.pieces.Piece.TheVariants.{Octets, Name}

module _ (slot : List (List ℕ) → ℕ) where
  -- After the message b a piece is written as these octets, and the hints become others.
  abbrev pub IsPiece : List ℕ → ℕ → List ℕ → Piece → List ℕ → List ℕ → Type 0
  IsPiece b gap hints (Octets bytes) octets after = (octets ≡ bytes.now) × (after ≡ hints)
  IsPiece b gap hints (Name ls) octets after = Compresses slot b gap (length b) hints ls octets after

  -- So are pieces, each after those before it.
  abbrev pub ArePieces : List ℕ → ℕ → List ℕ → List Piece → List ℕ → List ℕ → Type 0
  ArePieces b gap hints [] octets after = (octets ≡ []) × (after ≡ hints)
  ArePieces b gap hints (x ∷ xs) octets after =
      (own : List ℕ) × (between : List ℕ) × (others : List ℕ) × IsPiece b gap hints x own between × (octets ≡ own ++ others)
      × ArePieces (b ++ own) gap between xs others after

  -- Written after the message b, the pieces go past the limit.
  abbrev pub GoesPast : ℕ → List ℕ → ℕ → List ℕ → List Piece → Type 0
  GoesPast limit b gap hints [] = ⊥
  GoesPast limit b gap hints (x ∷ xs) =
      (own : List ℕ) × (between : List ℕ) × IsPiece b gap hints x own between
      × ((limit < length b + length own) ⊎ GoesPast limit (b ++ own) gap between xs)
