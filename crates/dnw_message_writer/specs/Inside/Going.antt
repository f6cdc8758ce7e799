-- Pieces that are being written: what is written of them already, and what is left.
use Rattle.std.specs.Prelude.{◌≡◌, ℕ, ◌+◌, ◌≤◌, List, ◌++◌, length, take}
use Rattle.dnw_message_writer.specs.CompressedNames.{put_at}
use Rattle.dnw_message_writer.specs.Pieces.{ArePieces, GoesPast}
use Rattle.dnw_message_writer.specs.declared.pieces.Piece.{Piece}

-- From the offset at on, octets of the first pieces are written over the old message. What the pieces that are left are written as
-- from here on is how all of them are written, and if these go past the limit, all of them do.
pub record Gone (slot : List (List ℕ) → ℕ) (limit : ℕ) (old : List ℕ) (at gap : ℕ) (first : List ℕ) (pieces : List Piece) (message : List ℕ)
    (end : ℕ) (hints : List ℕ) (left : List Piece) : Type 0 where
  pub own : List ℕ
  pub message_is : message ≡ put_at old at own
  pub end_is : end ≡ at + length own
  pub fits : end ≤ limit
  pub goes_on : (octets after : List ℕ) → ArePieces slot (take at old ++ own) gap hints left octets after
      → ArePieces slot (take at old) gap first pieces (own ++ octets) after
  pub past : GoesPast slot limit (take at old ++ own) gap hints left → GoesPast slot limit (take at old) gap first pieces
