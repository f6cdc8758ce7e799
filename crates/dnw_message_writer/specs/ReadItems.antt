-- What a message that is written is read as (RFC 1035, section 4).
use Rattle.std.specs.Prelude.{◌≡◌, ℕ, ◌+◌, ◌*◌, ◌≤◌, true, List, [], ◌∷◌, length, take}
use Rattle.std.specs.List.{AllZip}
use Rattle.dnw_base.specs.DnsClasses.{class_of_code}
use Rattle.dnw_base.specs.RecordTypes.{type_of_code}
use Rattle.dnw_data.specs.Table.{fields_of}
use Rattle.dnw_record.specs.DataCopies.{Copies, data_start, record_kinds}
use Rattle.dnw_record.specs.RecordFields.{up_to_end}
use Rattle.dnw_record.specs.Records.{HasDataName, RecordValue, data_octets}
use Rattle.dnw_message_read.specs.Headers.{metadata_of}
use Rattle.dnw_message_read.specs.declared.header.HeaderCounts.{HeaderCounts}
use Rattle.dnw_message_read.specs.Messages.{FailsMessage, MessageAt, MessageValue, QueryValue}
use Rattle.dnw_message_read.specs.declared.error.MessageError.{MessageError}
use Rattle.dnw_message_writer.specs.Contents.{AddedItems, AddedQuestion, AddedRecord, HoldsItems, PiecesStand, most_followed}
use Rattle.dnw_message_writer.specs.Data.{AreOfData}
use Rattle.dnw_message_writer.specs.declared.pieces.Piece.{Piece}
use Rattle.dnw_message_writer.specs.declared.pieces.Piece.TheVariants.{Octets, Name}
use Rattle.dnw_message_writer.specs.declared.state.WriterState.{WriterState}

-- A question that was read is this one: its name, and its type and its class by their codes.
abbrev pub IsAddedQuestion : AddedQuestion → QueryValue → Type 0
IsAddedQuestion q x =
    (x.name ≡ q.name) × (x.query_type ≡ type_of_code q.query_type) × (x.query_class ≡ class_of_code q.class)

-- A record that was read is this one: its owner, its type and its class by their codes, its time to live, and its data, which the
-- message has whole, and which are its pieces up to their end, also through pointers.
abbrev pub IsAddedRecord : AddedRecord → RecordValue → Type 0
IsAddedRecord r x =
    (x.owner ≡ r.owner) × (x.record_type ≡ type_of_code r.record_type) × (x.class ≡ class_of_code r.class) × (x.ttl ≡ r.ttl)
    × (x.start + x.len ≤ length x.message) × PiecesStand (up_to_end x) x.start r.pieces (x.start + x.len)

abbrev pub counts_of_items : AddedItems → HeaderCounts
counts_of_items c = record {
  queries = length c.queries;
  answers = length c.answers;
  authorities = length c.authorities;
  additionals = length c.additionals;
}

-- how many items there are
abbrev pub item_count : AddedItems → ℕ
item_count c = length c.queries + length c.answers + length c.authorities + length c.additionals

-- A message that was read has this id, what these flags say, and exactly these items, in their sections and order.
pub record HasItems (id flags : ℕ) (c : AddedItems) (x : MessageValue) : Type 0 where
  pub header : x.header ≡ record { metadata = metadata_of id flags; counts = counts_of_items c }
  pub queries : AllZip IsAddedQuestion c.queries x.queries
  pub answers : AllZip IsAddedRecord c.answers x.answers
  pub authorities : AllZip IsAddedRecord c.authorities x.authorities
  pub additionals : AllZip IsAddedRecord c.additionals x.additionals

-- A message of these items is read from octets which begin with it, whatever follows: it ends where it was written to, and its names
-- follow at most so many pointers.
abbrev pub HeldItemsAreRead : Type 0
HeldItemsAreRead = (id flags : ℕ) (c : AddedItems) (w : WriterState) (m octets : List ℕ) → HoldsItems id flags c w m → take w.end octets ≡ take w.end m
    → (x : MessageValue) × (k : ℕ) × MessageAt octets x k × (x.end ≡ w.end) × HasItems id flags c x × (k ≤ most_followed * item_count c)

-- Reading never fails if so many pointers are allowed.
abbrev pub HeldItemsNeverFail : Type 0
HeldItemsNeverFail = (id flags : ℕ) (c : AddedItems) (w : WriterState) (m octets : List ℕ) (most : ℕ) (error : MessageError)
    → HoldsItems id flags c w m → take w.end octets ≡ take w.end m → most_followed * item_count c ≤ most → FailsMessage octets most error → ⊥

-- What is read from them has these items, whatever reads it.
abbrev pub ReadMessagesHaveItems : Type 0
ReadMessagesHaveItems = (id flags : ℕ) (c : AddedItems) (w : WriterState) (m octets : List ℕ) (x : MessageValue) (k : ℕ)
    → HoldsItems id flags c w m → take w.end octets ≡ take w.end m → MessageAt octets x k → (x.end ≡ w.end) × HasItems id flags c x

-- ---- data

-- The pieces are octets alone, or a name alone.
abbrev pub AreOctetsAlone : List Piece → List ℕ → Type 0
AreOctetsAlone (Octets bytes ∷ []) own = own ≡ bytes.now
AreOctetsAlone xs own = ⊥

abbrev pub AreNameAlone : List Piece → List (List ℕ) → Type 0
AreNameAlone (Name ls ∷ []) labels = labels ≡ ls
AreNameAlone xs labels = ⊥

-- Such data are read as these octets, or as this name.
abbrev pub OctetsAreRead : Type 0
OctetsAreRead = (r : AddedRecord) (x : RecordValue) (own : List ℕ) → IsAddedRecord r x → AreOctetsAlone r.pieces own → data_octets x ≡ own

abbrev pub DataNamesAreRead : Type 0
DataNamesAreRead = (r : AddedRecord) (x : RecordValue) (labels : List (List ℕ)) → IsAddedRecord r x → AreNameAlone r.pieces labels
    → HasDataName x (record { is_fqdn = true; labels = labels })

-- Data that were given with every name in its wire form are read as these, field by field, whatever names are compressed.
abbrev pub GivenDataComeBack : Type 0
GivenDataComeBack = (r : AddedRecord) (x : RecordValue) (octets : List ℕ) → IsAddedRecord r x → AreOfData (fields_of r.class r.record_type octets) octets r.pieces
    → Copies (record_kinds x) (data_start x) octets
