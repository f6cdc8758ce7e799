-- Questions and records, as they are written after a message (RFC 1035, sections 4.1.2 and 4.1.3).
use Rattle.std.specs.Prelude.{◌≡◌, ℕ, ◌+◌, ◌-◌, ◌<◌, ◌⊎◌, ◌==◌, ◌&&◌, nat_lt, nat_le, if◌then◌else◌, Bool, false, List, [], ◌∷◌, ◌++◌, length, take, slice_index}
use Rattle.std.specs.Int.{w16, w32, to_be_bytes}
use Rattle.dnw_base.specs.Limits.{pointer_bits}
use Rattle.dnw_base.specs.Names.{wire}
use Rattle.dnw_base.specs.TypeCodes.{opt_code}
use Rattle.dnw_message_writer.specs.CompressedNames.{Compresses, MayPointTo, pointer_octets}
use Rattle.dnw_message_writer.specs.Pieces.{ArePieces, GoesPast}
use Rattle.dnw_message_writer.specs.Standing.{pointed}
use Rattle.dnw_message_writer.specs.declared.pieces.Piece.{Piece}

-- The owner stands at the place of the owner before. The root does not count, since its wire form is one octet.
abbrev pub IsNear : List ℕ → ℕ → List (List ℕ) → Type 0
IsNear b near ls = (1 < length (wire ls)) × MayPointTo b (length b) near ls

-- where the name at p stands: there, or where it points to if it is a pointer alone
abbrev pub place_at : List ℕ → ℕ → ℕ
place_at b p = if nat_lt (p + 1) (length b) && nat_le pointer_bits (slice_index b p) then pointed b p else p

-- the fields of a question after its name
abbrev pub question_fields : ℕ → ℕ → List ℕ
question_fields query_type class = to_be_bytes w16 query_type ++ to_be_bytes w16 class

-- the fields of a record after its owner, with a length of zero
abbrev pub fields_of_record : ℕ → ℕ → ℕ → List ℕ
fields_of_record record_type class ttl = to_be_bytes w16 record_type ++ (to_be_bytes w16 class ++ (to_be_bytes w32 ttl ++ 0 ∷ 0 ∷ []))

-- what a record has before the length of its data
abbrev pub before_length : List ℕ → List ℕ
before_length fields = take (length fields - 2) fields

module _ (slot : List (List ℕ) → ℕ) where
  -- An owner is written after the message b as these octets, and the hints become others: a pointer if it is that of the item
  -- before, and else as any name.
  abbrev pub IsOwner : List ℕ → ℕ → List ℕ → List (List ℕ) → List ℕ → List ℕ → Type 0
  IsOwner b near hints ls octets after =
      (IsNear b near ls × (octets ≡ pointer_octets near) × (after ≡ hints))
      ⊎ ((IsNear b near ls → ⊥) × Compresses slot b (length b) (length b) hints ls octets after)

  -- So is a question: its name, its type and its class.
  abbrev pub IsQuestion : List ℕ → ℕ → List ℕ → List (List ℕ) → ℕ → ℕ → List ℕ → List ℕ → Type 0
  IsQuestion b near hints ls query_type class octets after =
      (name : List ℕ) × IsOwner b near hints ls name after × (octets ≡ name ++ question_fields query_type class)

  -- It goes past the limit.
  abbrev pub QuestionGoesPast : ℕ → List ℕ → ℕ → List ℕ → List (List ℕ) → Type 0
  QuestionGoesPast limit b near hints ls =
      (name : List ℕ) × (after : List ℕ) × IsOwner b near hints ls name after × (limit < length b + length name + 4)

  -- So is a record: its owner, the fields up to its time to live, the length of its data, and these. No pointer reads the length,
  -- which is known only after them.
  abbrev pub IsRecord : List ℕ → ℕ → List ℕ → List (List ℕ) → List ℕ → List Piece → List ℕ → List ℕ → Type 0
  IsRecord b near hints ls fields pieces octets after =
      (owner : List ℕ) × (between : List ℕ) × (own : List ℕ) × IsOwner b near hints ls owner between
      × ArePieces slot ((b ++ owner) ++ fields) (length b + length owner + (length fields - 2)) between pieces own after
      × (octets ≡ owner ++ (before_length fields ++ (to_be_bytes w16 (length own) ++ own)))

  abbrev pub RecordGoesPast : ℕ → List ℕ → ℕ → List ℕ → List (List ℕ) → List ℕ → List Piece → Type 0
  RecordGoesPast limit b near hints ls fields pieces =
      (owner : List ℕ) × (between : List ℕ) × IsOwner b near hints ls owner between
      × ((limit < length b + length owner + length fields)
      ⊎ GoesPast slot limit ((b ++ owner) ++ fields) (length b + length owner + (length fields - 2)) between pieces)

-- ---- items of a message

-- An item: whether it is an OPT record, and how it is written after a message, with the place of the last owner and hints: as these octets,
-- and the hints become others.
pub record ItemForm : Type 1 where
  pub is_opt : Bool
  pub writes : List ℕ → ℕ → List ℕ → List ℕ → List ℕ → Type 0

-- When it goes past a limit.
pub record ItemPast : Type 1 where
  pub is_opt : Bool
  pub goes : ℕ → List ℕ → ℕ → List ℕ → Type 0

module _ (slot : List (List ℕ) → ℕ) where
  abbrev pub question_form : List (List ℕ) → ℕ → ℕ → ItemForm
  question_form name query_type class = record {
    is_opt = false;
    writes = λ b near hints octets after. IsQuestion slot b near hints name query_type class octets after;
  }

  abbrev pub question_past : List (List ℕ) → ItemPast
  question_past name = record { is_opt = false; goes = λ limit b near hints. QuestionGoesPast slot limit b near hints name }

  abbrev pub record_form : List (List ℕ) → ℕ → ℕ → ℕ → List Piece → ItemForm
  record_form owner record_type class ttl pieces = record {
    is_opt = record_type == opt_code;
    writes = λ b near hints octets after. IsRecord slot b near hints owner (fields_of_record record_type class ttl) pieces octets after;
  }

  abbrev pub record_past : List (List ℕ) → ℕ → ℕ → ℕ → List Piece → ItemPast
  record_past owner record_type class ttl pieces = record {
    is_opt = record_type == opt_code;
    goes = λ limit b near hints. RecordGoesPast slot limit b near hints owner (fields_of_record record_type class ttl) pieces;
  }
