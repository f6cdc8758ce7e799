-- Records whose data are given as octets, every name in its wire form, and lists of such data.
use Rattle.std.specs.Prelude.{◌≡◌, ◌≢◌, ℕ, ◌+◌, ◌≤◌, ◌==◌, List, [], ◌∷◌, drop, length, slice_index, slice_range}
use Rattle.std.specs.Int.{w16, from_be_bytes}
use Rattle.dnw_base.specs.TypeCodes.{opt_code}
use Rattle.dnw_data.specs.Table.{fields_of}
use Rattle.dnw_record.specs.DataPieces.{IsData}
use Rattle.dnw_message_writer.specs.Data.{AreOfData}
use Rattle.dnw_message_writer.specs.Hints.{slot_of}
use Rattle.dnw_message_writer.specs.Items.{IsRecord, ItemForm, ItemPast, RecordGoesPast, fields_of_record}
use Rattle.dnw_message_writer.specs.Sets.{AddsSet}
use Rattle.dnw_message_writer.specs.States.{FailsToAdd}
use Rattle.dnw_message_writer.specs.declared.listed.DataError.{DataError}
use Rattle.dnw_message_writer.specs.declared.listed.DataError.TheVariants as errors
use Rattle.dnw_message_writer.specs.declared.pieces.Piece.{Piece}
use Rattle.dnw_message_writer.specs.declared.section.Section.{Section}
use Rattle.dnw_message_writer.specs.declared.state.WriterState.{WriterState}

-- ---- lists of data: for each two octets of length, and the data

abbrev pub listed_size : List ℕ → ℕ
listed_size list = 2 + from_be_bytes w16 (slice_index list 0 ∷ slice_index list 1 ∷ [])

-- A list begins with data.
abbrev pub HasListed : List ℕ → Type 0
HasListed list = listed_size list ≤ length list

abbrev pub first_listed : List ℕ → List ℕ
first_listed list = slice_range list 2 (listed_size list)

-- It begins with these data, one after the other, and this is left.
abbrev pub ListsThen : List ℕ → List (List ℕ) → List ℕ → Type 0
ListsThen list [] left = left ≡ list
ListsThen list (d ∷ ds) left = HasListed list × (d ≡ first_listed list) × ListsThen (drop (listed_size list) list) ds left

abbrev pub ListsData : List ℕ → List (List ℕ) → Type 0
ListsData list ds = ListsThen list ds []

-- ---- records of an owner, a type, a class and a time to live

module _ (owner : List (List ℕ)) (record_type class ttl : ℕ) where
  -- how a record with these data is written: in the pieces that they have
  abbrev pub data_form : List ℕ → ItemForm
  data_form d = record {
    is_opt = record_type == opt_code;
    writes = λ b near hints octets after.
        (xs : List Piece) × AreOfData (fields_of class record_type d) d xs
        × IsRecord slot_of b near hints owner (fields_of_record record_type class ttl) xs octets after;
  }

  abbrev pub data_past : List ℕ → ItemPast
  data_past d = record {
    is_opt = record_type == opt_code;
    goes = λ limit b near hints.
        (xs : List Piece) × AreOfData (fields_of class record_type d) d xs
        × RecordGoesPast slot_of limit b near hints owner (fields_of_record record_type class ttl) xs;
  }

module _ (s : Section) (owner : List (List ℕ)) (record_type class ttl : ℕ) where
  -- Why a record with these data is not added.
  abbrev pub FailsToAddData : List ℕ → WriterState → List ℕ → DataError → Type 0
  FailsToAddData d w m errors.List = ⊥
  FailsToAddData d w m errors.Data = IsData (fields_of class record_type d) d → ⊥
  FailsToAddData d w m (errors.Write e) = FailsToAdd s (data_past owner record_type class ttl d) w m e

  -- Why the next record of a list is not added.
  abbrev pub FailsNext : List ℕ → WriterState → List ℕ → DataError → Type 0
  FailsNext left w m errors.List = (left ≢ []) × (HasListed left → ⊥)
  FailsNext left w m e = HasListed left × FailsToAddData (first_listed left) w m e

  -- Why the records of a list are not added: after some that could be, the next one could not.
  abbrev pub FailsListed : List ℕ → WriterState → List ℕ → DataError → Type 0
  FailsListed list w m e =
      (done : List (List ℕ)) × (left : List ℕ) × (v : WriterState) × (between : List ℕ) × ListsThen list done left
      × AddsSet s (data_form owner record_type class ttl) done w m v between × FailsNext left v between e
