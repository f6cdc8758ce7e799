-- The items that a message holds, by section and in their order (RFC 1035, section 4), and how each is read where it stands.
use Rattle.std.specs.Prelude.{◌≡◌, ℕ, ◌+◌, ◌/◌, ◌%◌, ◌<◌, ◌≤◌, ◌^◌, nat_eq, if◌then◌else◌, List, [], ◌∷◌, ◌++◌, length, take, slice_index, slice_range}
use Rattle.std.specs.Int.{w16, w32, to_be_bytes}
use Rattle.dnw_base.specs.Limits.{max_labels}
use Rattle.dnw_name_read.specs.Reading.{NameAt}
use Rattle.dnw_message_writer.specs.Standing.{first_item}
use Rattle.dnw_message_writer.specs.Sections.{rank}
use Rattle.dnw_message_writer.specs.States.{count_in_header, empty_header}
use Rattle.dnw_message_writer.specs.declared.pieces.Piece.{Piece}
use Rattle.dnw_message_writer.specs.declared.pieces.Piece.TheVariants.{Octets, Name}
use Rattle.dnw_message_writer.specs.declared.section.Section.{Section}
use Rattle.dnw_message_writer.specs.declared.section.Section.TheVariants.{Queries, Answers, Authorities, Additionals}
use Rattle.dnw_message_writer.specs.declared.set.Data.{Data}
use Rattle.dnw_message_writer.specs.declared.state.WriterState.{WriterState}

-- A question: its name, and the codes of its type and its class.
pub record AddedQuestion : Type 0 where
  pub name : List (List ℕ)
  pub query_type : ℕ
  pub class : ℕ

-- A record: its owner, the codes of its type and its class, its time to live, and the pieces of its data.
pub record AddedRecord : Type 0 where
  pub owner : List (List ℕ)
  pub record_type : ℕ
  pub class : ℕ
  pub ttl : ℕ
  pub pieces : List Piece

-- the record with other data
abbrev pub with_data : AddedRecord → Data → AddedRecord
with_data r d = record r { pieces = d.pieces.now }

-- The codes and the time to live fit their fields, as those of a call do.
abbrev pub QuestionFits : AddedQuestion → Type 0
QuestionFits q = (q.query_type < 2 ^ 16) × (q.class < 2 ^ 16)

abbrev pub RecordFits : AddedRecord → Type 0
RecordFits r = (r.record_type < 2 ^ 16) × (r.class < 2 ^ 16) × (r.ttl < 2 ^ 32)

-- ---- how they are read

-- the most pointers that a name follows: one before each of its labels, one before its closing zero, and one that stands for it
abbrev pub most_followed : ℕ
most_followed = max_labels + 2

-- A piece of data is read from p to e: octets as they are, and a name as its labels, whatever pointers it has.
abbrev pub PieceStands : List ℕ → ℕ → Piece → ℕ → Type 0
PieceStands b p (Octets bytes) e = (e ≡ p + length bytes.now) × (slice_range b p e ≡ bytes.now)
PieceStands b p (Name ls) e = (k : ℕ) × NameAt b p ls e k

-- So are pieces, one after the other.
abbrev pub PiecesStand : List ℕ → ℕ → List Piece → ℕ → Type 0
PiecesStand b p [] e = p ≡ e
PiecesStand b p (x ∷ xs) e = (q : ℕ) × PieceStands b p x q × PiecesStand b q xs e

-- A question is read from p to e: its name, its type and its class.
pub record ReadsAsQuestion (b : List ℕ) (q : AddedQuestion) (p e : ℕ) : Type 0 where
  pub name_end : ℕ
  pub pointers : ℕ
  pub name : NameAt b p q.name name_end pointers
  pub few : pointers ≤ most_followed
  pub query_type : slice_range b name_end (name_end + 2) ≡ to_be_bytes w16 q.query_type
  pub class : slice_range b (name_end + 2) (name_end + 4) ≡ to_be_bytes w16 q.class
  pub ends : e ≡ name_end + 4
  pub inside : e ≤ length b
  pub fits : QuestionFits q

-- the fields of a record between its owner and its data, of which there are so many octets
abbrev pub fields_before : AddedRecord → ℕ → List ℕ
fields_before r len = to_be_bytes w16 r.record_type ++ (to_be_bytes w16 r.class ++ (to_be_bytes w32 r.ttl ++ to_be_bytes w16 len))

-- A record is read from p to e: its owner, its fields, and its data, of which nothing is read after them.
pub record ReadsAsRecord (b : List ℕ) (r : AddedRecord) (p e : ℕ) : Type 0 where
  pub owner_end : ℕ
  pub pointers : ℕ
  pub len : ℕ
  pub owner : NameAt b p r.owner owner_end pointers
  pub few : pointers ≤ most_followed
  pub fields : slice_range b owner_end (owner_end + 10) ≡ fields_before r len
  pub ends : e ≡ owner_end + 10 + len
  pub inside : e ≤ length b
  pub small : len < 2 ^ 16
  pub data_are : PiecesStand (take e b) (owner_end + 10) r.pieces e
  pub fits : RecordFits r

-- ---- in each later message

-- A later message has the same octets after its header, up to an offset.
pub record KeepsItems (end : ℕ) (m later : List ℕ) : Type 0 where
  pub longer : end ≤ length later
  pub same : (i : ℕ) → first_item ≤ i → i < end → slice_index later i ≡ slice_index m i

-- The item is read there in each of them.
abbrev pub StaysRead : {A : Type 0} → (List ℕ → A → ℕ → ℕ → Type 0) → List ℕ → A → ℕ → ℕ → Type 0
StaysRead stands m x p e = (later : List ℕ) → KeepsItems e m later → stands later x p e

-- So are items, one after the other.
abbrev pub StayInTurn : {A : Type 0} → (List ℕ → A → ℕ → ℕ → Type 0) → List ℕ → List A → ℕ → ℕ → Type 0
StayInTurn stands m [] p e = p ≡ e
StayInTurn stands m (x ∷ xs) p e = (q : ℕ) × (p ≤ q) × StaysRead stands m x p q × StayInTurn stands m xs q e

-- ---- messages

-- The items of a message, by section.
pub record AddedItems : Type 0 where
  pub queries : List AddedQuestion
  pub answers : List AddedRecord
  pub authorities : List AddedRecord
  pub additionals : List AddedRecord

abbrev pub no_items : AddedItems
no_items = record { queries = []; answers = []; authorities = []; additionals = [] }

-- one more question
abbrev pub with_question : AddedQuestion → AddedItems → AddedItems
with_question q c = record c { queries = c.queries ++ q ∷ [] }

-- more records of a section
abbrev pub with_records : Section → List AddedRecord → AddedItems → AddedItems
with_records Queries rs c = c
with_records Answers rs c = record c { answers = c.answers ++ rs }
with_records Authorities rs c = record c { authorities = c.authorities ++ rs }
with_records Additionals rs c = record c { additionals = c.additionals ++ rs }

-- how many items a section has
abbrev pub items_of_section : Section → AddedItems → ℕ
items_of_section Queries c = length c.queries
items_of_section Answers c = length c.answers
items_of_section Authorities c = length c.authorities
items_of_section Additionals c = length c.additionals

-- The message that a writer has so far is one of this id, these flags and these items: the header says so, each section begins where
-- the one before it ends, each item is read there also in each later message, and no section after that of the last item has one.
pub record HoldsItems (id flags : ℕ) (c : AddedItems) (w : WriterState) (m : List ℕ) : Type 0 where
  pub whole : first_item ≤ w.end
  pub within : w.end ≤ length m
  pub head : (i : ℕ) → i < 4 → slice_index m i ≡ slice_index (empty_header id flags) i
  pub id_fits : id < 2 ^ 16
  pub flags_fit : flags < 2 ^ 16
  pub counts : (s : Section) → count_in_header s m ≡ items_of_section s c
  pub few : (s : Section) → items_of_section s c < 2 ^ 16
  pub answers_at : ℕ
  pub authorities_at : ℕ
  pub additionals_at : ℕ
  pub queries : StayInTurn ReadsAsQuestion m c.queries first_item answers_at
  pub answers : StayInTurn ReadsAsRecord m c.answers answers_at authorities_at
  pub authorities : StayInTurn ReadsAsRecord m c.authorities authorities_at additionals_at
  pub additionals : StayInTurn ReadsAsRecord m c.additionals additionals_at w.end
  pub ordered : (s : Section) → w.rank < rank s → items_of_section s c ≡ 0

-- the flags with TC, bit 9
abbrev pub cut_flags : ℕ → ℕ
cut_flags flags = if nat_eq (flags / 512 % 2) 0 then flags + 512 else flags
