-- What a message holds after each call of a writer. Each is the clause of a public function, and so proved.
use Rattle.std.specs.Prelude.{◌≡◌, ℕ, ◌<◌, ◌≤◌, ◌^◌, ◌==◌, List, [], ◌∷◌, length, map, take}
use Rattle.std.specs.List.{AllByRecursion}
use Rattle.dnw_base.specs.Names.{AreLabels}
use Rattle.dnw_base.specs.TypeCodes.{opt_code}
use Rattle.dnw_data.specs.Table.{fields_of}
use Rattle.dnw_message_writer.specs.Contents.{AddedQuestion, AddedRecord, AddedItems, HoldsItems, QuestionFits, RecordFits, cut_flags, no_items, with_data, with_question, with_records}
use Rattle.dnw_message_writer.specs.Data.{AreOfData}
use Rattle.dnw_message_writer.specs.Inside.Fitting.{HasLabels}
use Rattle.dnw_message_writer.specs.Items.{IsRecord, ItemForm, fields_of_record, question_form, record_form}
use Rattle.dnw_message_writer.specs.Sections.{rank}
use Rattle.dnw_message_writer.specs.Sets.{AddsSet, CutsOff}
use Rattle.dnw_message_writer.specs.States.{AddsItem, AddsLastItem, BeginsMessage, for_last}
use Rattle.dnw_message_writer.specs.declared.pieces.Piece.{Piece}
use Rattle.dnw_message_writer.specs.declared.section.Section.{Section}
use Rattle.dnw_message_writer.specs.declared.section.Section.TheVariants.{Queries, Additionals}
use Rattle.dnw_message_writer.specs.declared.set.Data.{Data}
use Rattle.dnw_message_writer.specs.declared.state.WriterState.{WriterState}

-- A message that begins has no items.
abbrev pub BegunMessagesAreEmpty : Type 0
BegunMessagesAreEmpty = (id flags max_size : ℕ) (old new : List ℕ) (w : WriterState) → id < 2 ^ 16 → flags < 2 ^ 16 → 12 ≤ length old
    → BeginsMessage id flags max_size old w new → HoldsItems id flags no_items w new

-- A question that is added is one more.
abbrev pub QuestionsAreAdded : Type 0
QuestionsAreAdded = (slot : List (List ℕ) → ℕ) (id flags : ℕ) (c : AddedItems) (q : AddedQuestion) (w v : WriterState) (old new : List ℕ)
    → HoldsItems id flags c w old → QuestionFits q → AreLabels q.name
    → AddsItem Queries (question_form slot q.name q.query_type q.class) w old v new
    → HoldsItems id flags (with_question q c) v new

-- So is a record, of a section of records.
abbrev pub RecordsAreAdded : Type 0
RecordsAreAdded = (slot : List (List ℕ) → ℕ) (id flags : ℕ) (c : AddedItems) (s : Section) (r : AddedRecord) (w v : WriterState) (old new : List ℕ)
    → HoldsItems id flags c w old → 1 ≤ rank s → RecordFits r → AreLabels r.owner → AllByRecursion HasLabels r.pieces
    → AddsItem s (record_form slot r.owner r.record_type r.class r.ttl r.pieces) w old v new
    → HoldsItems id flags (with_records s (r ∷ []) c) v new

-- how a record is written whose data are given as octets, with every name in its wire form
abbrev pub given_form : (List (List ℕ) → ℕ) → AddedRecord → List ℕ → ItemForm
given_form slot r given = record {
  is_opt = r.record_type == opt_code;
  writes = λ b near hints octets after.
      (xs : List Piece) × AreOfData (fields_of r.class r.record_type given) given xs
      × IsRecord slot b near hints r.owner (fields_of_record r.record_type r.class r.ttl) xs octets after;
}

-- So is a record whose data are given as octets, with every name in its wire form: its pieces are of these.
abbrev pub GivenRecordsAreAdded : Type 0
GivenRecordsAreAdded = (slot : List (List ℕ) → ℕ) (id flags : ℕ) (c : AddedItems) (s : Section) (r : AddedRecord) (given : List ℕ) (w v : WriterState)
    (old new : List ℕ) → HoldsItems id flags c w old → 1 ≤ rank s → RecordFits r → AreLabels r.owner
    → AddsItem s (given_form slot r given) w old v new
    → (xs : List Piece) × AreOfData (fields_of r.class r.record_type given) given xs
    × HoldsItems id flags (with_records s (record r { pieces = xs } ∷ []) c) v new

-- So are the records of a set, in their order.
abbrev pub SetsAreAdded : Type 0
SetsAreAdded = (slot : List (List ℕ) → ℕ) (id flags : ℕ) (c : AddedItems) (s : Section) (r : AddedRecord) (set : List Data) (w v : WriterState)
    (old new : List ℕ) → HoldsItems id flags c w old → 1 ≤ rank s → RecordFits r → AreLabels r.owner
    → AllByRecursion (λ d. AllByRecursion HasLabels d.pieces.now) set
    → AddsSet s (λ d. record_form slot r.owner r.record_type r.class r.ttl d.pieces.now) set w old v new
    → HoldsItems id flags (with_records s (map (with_data r) set) c) v new

-- So is a last record, which has some of the octets that were held back.
abbrev pub LastRecordsAreAdded : Type 0
LastRecordsAreAdded = (slot : List (List ℕ) → ℕ) (id flags held : ℕ) (c : AddedItems) (r : AddedRecord) (w v : WriterState) (old new : List ℕ)
    → HoldsItems id flags c w old → RecordFits r → AreLabels r.owner → AllByRecursion HasLabels r.pieces
    → AddsLastItem (record_form slot r.owner r.record_type r.class r.ttl r.pieces) (for_last held w) old v new
    → HoldsItems id flags (with_records Additionals (r ∷ []) c) v new

-- A message that says that something is missing has the same items.
abbrev pub CutMessagesHold : Type 0
CutMessagesHold = (id flags : ℕ) (c : AddedItems) (w : WriterState) (old new : List ℕ) → HoldsItems id flags c w old → CutsOff w.end old new
    → HoldsItems id (cut_flags flags) c w new

-- So does one that is unchanged up to its end, as after a call that fails, or one that holds octets back.
abbrev pub UnchangedMessagesHold : Type 0
UnchangedMessagesHold = (id flags : ℕ) (c : AddedItems) (w v : WriterState) (old new : List ℕ) → HoldsItems id flags c w old → v.end ≡ w.end
    → v.rank ≡ w.rank → take w.end new ≡ take w.end old → HoldsItems id flags c v new
