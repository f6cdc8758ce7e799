-- Data that are taken apart, field by field.
use Rattle.std.specs.Prelude.{◌≡◌, ℕ, ◌+◌, ◌==◌, ◌||◌, Bool, None, if◌then◌else◌, List, [], ◌∷◌, ◌++◌, drop, length, slice_range, ◌≤◌}
use Rattle.dnw_base.specs.Names.{AreLabels, wire}
use Rattle.dnw_base.specs.TypeCodes.{cname_code, mx_code, ns_code, ptr_code}
use Rattle.dnw_data.specs.declared.kind.Kind.{Kind}
use Rattle.dnw_data.specs.Signature.{before_signer}
use Rattle.dnw_data.specs.Values.{own_fault}
use Rattle.dnw_record.specs.DataPieces.{DataPiece, IsPieceOf, piece_octets}
use Rattle.dnw_message_writer.specs.Data.{are_to_compress}

-- The octets begin with a field of this kind.
abbrev pub HasField : Kind → List ℕ → List ℕ → Type 0
HasField kind octets own =
    (piece : DataPiece) × (own ≡ piece_octets piece) × (octets ≡ own ++ drop (length own) octets) × IsPieceOf kind piece (drop (length own) octets)

-- They begin with none.
abbrev pub HasNoField : Kind → List ℕ → Type 0
HasNoField kind octets = (piece : DataPiece) (rest : List ℕ) → octets ≡ piece_octets piece ++ rest → IsPieceOf kind piece rest → ⊥

-- A field of this kind, no name, may be any octets of its size.
abbrev pub IsPlain : Kind → Type 0
IsPlain kind = (own : List ℕ) → own_fault kind own ≡ None

-- the code of MX: no later type has a name that may be compressed (RFC 3597, section 4)
abbrev pub last_compressed : ℕ
last_compressed = mx_code

-- the types whose data are a name alone and are mostly written: NS, CNAME and PTR (RFC 1035, sections 3.3.1, 3.3.11 and 3.3.12)
abbrev pub is_usual_name : ℕ → Bool
is_usual_name code = code == ns_code || (code == cname_code || code == ptr_code)

-- no data with fields of these kinds have more pieces
abbrev pub most_pieces : List Kind → ℕ
most_pieces [] = 1
most_pieces (kind ∷ others) = if are_to_compress (kind ∷ others) then 1 + most_pieces others else 1

-- The name of the signer begins after the other fields of an RRSIG.
pub record HasSigner (octets : List ℕ) : Type 0 where
  pub long : before_signer ≤ length octets
  pub signer : List (List ℕ)
  pub are : AreLabels signer
  pub named : slice_range octets before_signer (length octets) ≡ wire signer ++ drop (length (wire signer)) (slice_range octets before_signer (length octets))
