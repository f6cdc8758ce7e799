-- How many octets items take. Each is the clause of a public function, and so proved.
use Rattle.std.specs.Prelude.{◌≡◌, ◌≢◌, ℕ, ◌+◌, ◌<◌, ◌≤◌, ◌⊎◌, List, [], ◌∷◌, slice_index, take}
use Rattle.std.specs.List.{AllByRecursion}
use Rattle.dnw_base.specs.Limits.{pointer_bits, pointer_offsets}
use Rattle.dnw_base.specs.Names.{AreLabels, encoded_size}
use Rattle.dnw_message_writer.specs.Contents.{AddedQuestion, AddedRecord}
use Rattle.dnw_message_writer.specs.Inside.Fitting.{HasLabels, whole_size}
use Rattle.dnw_message_writer.specs.Items.{IsNear, question_form, question_past, record_form, record_past}
use Rattle.dnw_message_writer.specs.Standing.{first_item}
use Rattle.dnw_message_writer.specs.States.{AddsItem, AddsLastItem, BeginsMessage, FailsToAdd, for_last, room_of}
use Rattle.dnw_message_writer.specs.declared.pieces.Piece.{Piece}
use Rattle.dnw_message_writer.specs.declared.pieces.Piece.TheVariants.{Name, Octets}
use Rattle.dnw_message_writer.specs.declared.section.Section.{Section}
use Rattle.dnw_message_writer.specs.declared.section.Section.TheVariants.{Queries}
use Rattle.dnw_message_writer.specs.declared.section.WriteError.TheVariants.{NoRoom}
use Rattle.dnw_message_writer.specs.declared.state.WriterState.{WriterState}

-- the octets of pieces with their names whole
abbrev pub whole_pieces : List Piece → ℕ
whole_pieces [] = 0
whole_pieces (x ∷ xs) = whole_size x + whole_pieces xs

-- the octets of a question and of a record with their names whole
abbrev pub whole_question : AddedQuestion → ℕ
whole_question q = encoded_size q.name + 4

abbrev pub whole_record : AddedRecord → ℕ
whole_record r = encoded_size r.owner + 10 + whole_pieces r.pieces

-- A question takes no more octets than with its name whole, and has no room only if it would have none so.
abbrev pub QuestionsTakeNoMore : Type 0
QuestionsTakeNoMore = (slot : List (List ℕ) → ℕ) (q : AddedQuestion) (w : WriterState) (old : List ℕ) → AreLabels q.name
    → ((v : WriterState) (new : List ℕ) → AddsItem Queries (question_form slot q.name q.query_type q.class) w old v new
    → v.end ≤ w.end + whole_question q)
    × (FailsToAdd Queries (question_past slot q.name) w old NoRoom → room_of w old < w.end + whole_question q)

-- So does a record.
abbrev pub RecordsTakeNoMore : Type 0
RecordsTakeNoMore = (slot : List (List ℕ) → ℕ) (s : Section) (r : AddedRecord) (w : WriterState) (old : List ℕ) → AreLabels r.owner
    → AllByRecursion HasLabels r.pieces
    → ((v : WriterState) (new : List ℕ)
    → AddsItem s (record_form slot r.owner r.record_type r.class r.ttl r.pieces) w old v new
    → v.end ≤ w.end + whole_record r)
    × (FailsToAdd s (record_past slot r.owner r.record_type r.class r.ttl r.pieces) w old NoRoom
    → room_of w old < w.end + whole_record r)

-- ---- last records

-- The piece is octets, and no name that may be compressed. So are those of TSIG and SIG (RFC 3597, section 4; RFC 8945, section 4.2).
abbrev pub IsPlainPiece : Piece → Type 0
IsPlainPiece (Octets bytes) = Unit {0}
IsPlainPiece (Name ls) = ⊥

-- A last record takes as many octets as with its names whole: as many as were held back for it. Whatever the message has before.
abbrev pub LastRecordsAreWhole : Type 0
LastRecordsAreWhole = (slot : List (List ℕ) → ℕ) (held : ℕ) (r : AddedRecord) (w v : WriterState) (old new : List ℕ) → AreLabels r.owner
    → AllByRecursion IsPlainPiece r.pieces
    → AddsLastItem (record_form slot r.owner r.record_type r.class r.ttl r.pieces) (for_last held w) old v new
    → v.end ≡ w.end + whole_record r

-- ---- owners that repeat

-- No hint is the offset of a pointer: it is in the header, where none may point to, or that of a label of the message.
abbrev pub HintsAtLabels : WriterState → List ℕ → Type 0
HintsAtLabels w m =
    (i : ℕ) → first_item ≤ slice_index w.hints i → (slice_index w.hints i < w.end) × (slice_index m (slice_index w.hints i) < pointer_bits)

abbrev pub HintsBegin : Type 0
HintsBegin = (id flags max_size : ℕ) (old new : List ℕ) (w : WriterState) → BeginsMessage id flags max_size old w new → HintsAtLabels w new

-- A pointer may stand for the owner of the next item, if it is this one.
abbrev pub IsNearNext : WriterState → List ℕ → List (List ℕ) → Type 0
IsNearNext w m ls = IsNear (take w.end m) w.owner ls

-- So it is after a question with this name, and the hints are still so. It begins at an offset that a pointer can hold, or a pointer stood
-- for the name already.
abbrev pub QuestionsAreNear : Type 0
QuestionsAreNear = (slot : List (List ℕ) → ℕ) (q : AddedQuestion) (w v : WriterState) (old new : List ℕ) → HintsAtLabels w old → AreLabels q.name
    → AddsItem Queries (question_form slot q.name q.query_type q.class) w old v new
    → HintsAtLabels v new
    × (q.name ≢ [] → (w.end < pointer_offsets) ⊎ IsNearNext w old q.name → IsNearNext v new q.name)

-- So it is after a record with this owner.
abbrev pub RecordsAreNear : Type 0
RecordsAreNear = (slot : List (List ℕ) → ℕ) (s : Section) (r : AddedRecord) (w v : WriterState) (old new : List ℕ) → HintsAtLabels w old
    → AreLabels r.owner → AllByRecursion HasLabels r.pieces
    → AddsItem s (record_form slot r.owner r.record_type r.class r.ttl r.pieces) w old v new
    → HintsAtLabels v new
    × (r.owner ≢ [] → (w.end < pointer_offsets) ⊎ IsNearNext w old r.owner → IsNearNext v new r.owner)

-- Then an owner takes two octets.
abbrev pub NearOwnersTakeTwo : Type 0
NearOwnersTakeTwo = (slot : List (List ℕ) → ℕ) (s : Section) (r : AddedRecord) (w v : WriterState) (old new : List ℕ) → IsNearNext w old r.owner
    → AllByRecursion HasLabels r.pieces
    → AddsItem s (record_form slot r.owner r.record_type r.class r.ttl r.pieces) w old v new
    → v.end ≤ w.end + (2 + 10 + whole_pieces r.pieces)
