-- The table of a message (RFC 1035, section 4): a row for each question and record, each followed by a row for each field of its data,
-- and the wire forms of all names, one after another. What is listed is said step by step, so that it is also known how far it came if
-- the message ends too early, its names follow too many pointers, or there is no room.
use Rattle.std.specs.Prelude.{◌≡◌, ◌≢◌, ◌<◌, ◌≤◌, ◌⊎◌, ℕ, ◌+◌, ◌-◌, List, [], ◌∷◌, ◌++◌, drop, length, map, slice_range}
use Rattle.dnw_base.specs.declared.error.DecodeError.{DecodeError}
use Rattle.dnw_base.specs.Decoder.{Decoder}
use Rattle.dnw_base.specs.Names.{wire}
use Rattle.dnw_name_read.specs.Reading.{TakesName}
use Rattle.dnw_data.specs.declared.kind.Kind.{Kind}
use Rattle.dnw_data.specs.declared.kind.Kind.TheVariants.{Name}
use Rattle.dnw_data.specs.Fields.{FailsField, TakesOwn}
use Rattle.dnw_data.specs.Lists.{ItemsValue, head_size as entry_head, item_size as entry_size, tag_of}
use Rattle.dnw_data.specs.Values.{FieldValue, names, params, prefixes, texts, types}
use Rattle.dnw_data.specs.Walks.{IsAtEnd}
use Rattle.dnw_record.specs.DataCopies.{data_start, record_kinds}
use Rattle.dnw_record.specs.Records.{fixed_at, fixed_size, length_field, number_at, ttl_field}
use Rattle.dnw_message_read.specs.Headers.{header_of, header_size}
use Rattle.dnw_message_read.specs.Messages.{FailsHere, Item, ItemAt, Part, question_rest, record_in, record_rest, rest_of, sections_of}
use Rattle.dnw_message_read.specs.declared.error.MessageErrorKind.{MessageErrorKind}
use Rattle.dnw_message_read.specs.declared.error.Section.{Section}
use Rattle.dnw_message_read.specs.declared.error.Section.TheVariants.{Queries}
use Rattle.dnw_c_base.specs.Failures.{number, of_decode}
use Rattle.dnw_c_base.specs.declared.failure.Failure.{Failure}
use Rattle.dnw_c_base.specs.declared.failure.Failure.TheVariants.{NoRoom, TooManyPointers, WrongDataLength}
use Rattle.dnw_c_messages.specs.FieldCalls.{field_kind, head_of}
use Rattle.dnw_c_messages.specs.MessageCalls.{of_message, section_number}
use Rattle.dnw_c_messages.specs.declared.rows.TableRow.{TableRow}

-- ---- rows

-- What is listed: the rows, the octets of the names, and how many pointers more may be followed.
pub record Listing : Type 0 where
  pub rows : List TableRow
  pub names : List ℕ
  pub left : ℕ

-- the row of an item of a section: its type, class and number, and where so many octets after its name's fields are
abbrev pub item_row : ℕ → List ℕ → ℕ → ℕ → ℕ → TableRow
item_row section fixed ttl offset len = record {
  section = section;
  kind = 0;
  record_type = number_at fixed 0;
  record_class = number_at fixed 2;
  number = ttl;
  offset = offset;
  len = len;
  name = 0;
  name_len = 0;
}

-- of a question whose name ends at e: it has no time to live and no data
abbrev pub question_row : List ℕ → ℕ → TableRow
question_row b e = item_row 1 (slice_range b e (e + 4)) 0 (e + 4) 0

-- of a record of a section, whose owner ends at e
abbrev pub record_row : ℕ → List ℕ → ℕ → TableRow
record_row section b e = item_row section (fixed_at b e) (ttl_field (fixed_at b e)) (e + fixed_size) (length_field (fixed_at b e))

-- a row of data, of this kind and with this number: so many octets from an offset on
abbrev pub data_row : ℕ → ℕ → ℕ → ℕ → TableRow
data_row kind number offset len = record {
  section = 0;
  kind = kind;
  record_type = 0;
  record_class = 0;
  number = number;
  offset = offset;
  len = len;
  name = 0;
  name_len = 0;
}

-- of a field from p to e, without the octets before its value
abbrev pub field_row : Kind → ℕ → ℕ → TableRow
field_row kind p e = data_row (field_kind kind) 0 (p + head_of kind) (e - (p + head_of kind))

-- the kinds of the two other rows
abbrev pub entry_kind : ℕ
entry_kind = 19

abbrev pub fault_kind : ℕ
fault_kind = 20

-- of the first entry of a list that ends at e: the number that it begins with, and its octets after that and their count
abbrev pub entry_row : ItemsValue → ℕ → TableRow
entry_row list e =
    let own = slice_range list.octets (entry_head list.kind) (entry_size list.kind list.octets) in
    let rest = drop (entry_size list.kind list.octets) list.octets in
    data_row entry_kind (tag_of list.kind list.octets) (e - length rest - length own) (length own)

-- of data that are none from the decoder on, for this reason
abbrev pub fault_row : Failure → Decoder → TableRow
fault_row why d = data_row fault_kind (number why) d.index (length d.bytes - d.index)

-- a row with the place of a name among the octets of the names
abbrev pub named : TableRow → ℕ → ℕ → TableRow
named row place size = record {
  section = row.section;
  kind = row.kind;
  record_type = row.record_type;
  record_class = row.record_class;
  number = row.number;
  offset = row.offset;
  len = row.len;
  name = place;
  name_len = size;
}

-- a row is listed
abbrev pub with_row : Listing → TableRow → Listing
with_row l row = record { rows = l.rows ++ row ∷ []; names = l.names; left = l.left }

-- a name that followed k pointers is listed, and a row with its place
abbrev pub with_name : Listing → List (List ℕ) → ℕ → TableRow → Listing
with_name l labels k row = record {
  rows = l.rows ++ named row (length l.names) (length (wire labels)) ∷ [];
  names = l.names ++ wire labels;
  left = l.left - k;
}

-- ---- steps

-- What is to be listed: so many items of a section; fields of these kinds, of the data that a decoder is in, which end with its bytes;
-- or the entries of a list that ends at an offset.
pub data Task : Type 0 where
  items : Section → ℕ → Task
  fields : List Kind → Decoder → Task
  entries : ItemsValue → ℕ → Task

-- a field of this kind is no name
abbrev pub IsOwnKind : Kind → Type 0
IsOwnKind (Name form) = ⊥
IsOwnKind kind = Unit {0}

-- the entries of a field that ends at e, if it is a list
abbrev pub entries_of : FieldValue → ℕ → List Task
entries_of (texts list) e = entries list e ∷ []
entries_of (types list) e = entries list e ∷ []
entries_of (params list) e = entries list e ∷ []
entries_of (prefixes list) e = entries list e ∷ []
entries_of (names list) e = entries list e ∷ []
entries_of value e = []

-- The first step of a task in a message, whose next item is at p: what is to be listed instead, where the next item is then, and what is
-- listed.
pub data ListStep (b : List ℕ) : Task → ℕ → Listing → List Task → ℕ → Listing → Type 0 where
  -- a question (section 4.1.2)
  question : {p q k n : ℕ} {l : Listing} {x : Item}
      → 1 ≤ n → ItemAt question_rest b p x q k → k ≤ l.left
      → ListStep b (items Queries n) p l (items Queries (n - 1) ∷ []) q (with_name l x.labels k (question_row b x.name_end))
  -- a record, and then the fields of its data (section 4.1.3)
  resource : {p q k n : ℕ} {l : Listing} {x : Item} {section : Section}
      → section ≢ Queries → 1 ≤ n → ItemAt record_rest b p x q k → k ≤ l.left
      → ListStep b (items section n) p l (fields (record_kinds (record_in b x)) (data_start (record_in b x)) ∷ items section (n - 1) ∷ []) q
      (with_name l x.labels k (record_row (section_number section) b x.name_end))
  no_items : {p : ℕ} {l : Listing} {section : Section} → ListStep b (items section 0) p l [] p l
  -- a field that is a name
  name_field : {p k : ℕ} {l : Listing} {labels : List (List ℕ)} {kind : Kind} {kinds : List Kind} {d after : Decoder}
      → ¬ (IsOwnKind kind) → TakesName d after labels k → k ≤ l.left
      → ListStep b (fields (kind ∷ kinds) d) p l (fields kinds after ∷ []) p (with_name l labels k (field_row kind d.index after.index))
  -- another field, and then its entries
  own_field : {p : ℕ} {l : Listing} {value : FieldValue} {kind : Kind} {kinds : List Kind} {d after : Decoder}
      → IsOwnKind kind → TakesOwn kind d value after
      → ListStep b (fields (kind ∷ kinds) d) p l (entries_of value after.index ++ fields kinds after ∷ []) p
      (with_row l (field_row kind d.index after.index))
  -- no such field is there: the other fields are not looked for
  no_field : {p : ℕ} {l : Listing} {kind : Kind} {kinds : List Kind} {d : Decoder} (error : DecodeError)
      → FailsField kind d error → ListStep b (fields (kind ∷ kinds) d) p l [] p (with_row l (fault_row (of_decode error) d))
  octets_left : {p : ℕ} {l : Listing} {d : Decoder}
      → ¬ (IsAtEnd d) → ListStep b (fields [] d) p l [] p (with_row l (fault_row WrongDataLength d))
  no_fields : {p : ℕ} {l : Listing} {d : Decoder} → IsAtEnd d → ListStep b (fields [] d) p l [] p l
  entry : {p e : ℕ} {l : Listing} {list : ItemsValue}
      → list.octets ≢ []
      → ListStep b (entries list e) p l
      (entries (record { kind = list.kind; octets = drop (entry_size list.kind list.octets) list.octets }) e ∷ []) p (with_row l (entry_row list e))
  no_entries : {p e : ℕ} {l : Listing} {list : ItemsValue} → list.octets ≡ [] → ListStep b (entries list e) p l [] p l

-- Steps follow one another: the first of the tasks is done first.
pub data ListSteps (b : List ℕ) : List Task → ℕ → Listing → List Task → ℕ → Listing → Type 0 where
  here : {p : ℕ} {l : Listing} {tasks : List Task} → ListSteps b tasks p l tasks p l
  on : {p q r : ℕ} {l m n : Listing} {task : Task} {first tasks others : List Task}
      → ListStep b task p l first q m → ListSteps b (first ++ tasks) q m others r n → ListSteps b (task ∷ tasks) p l others r n

-- ---- ends

-- There is no next step of a task, for this reason: no such item is there, or its name follows more pointers than are left.
abbrev pub FailsTask : List ℕ → Task → ℕ → Listing → Failure → Type 0
FailsTask b (items section n) p l failure =
    (1 ≤ n) × (kind : MessageErrorKind) × FailsHere (rest_of section) b p l.left kind × (failure ≡ of_message kind)
FailsTask b (fields (Name form ∷ kinds) d) p l failure =
    (after : Decoder) × (labels : List (List ℕ)) × (k : ℕ) × TakesName d after labels k × (l.left < k) × (failure ≡ TooManyPointers)
FailsTask b task p l failure = ⊥

-- so many rows and octets of names are not enough
abbrev pub Exceeds : ℕ → ℕ → Listing → Type 0
Exceeds row_room name_room l = (row_room < length l.rows) ⊎ (name_room < length l.names)

-- Steps come to a task without a next one, or to more rows or names than there is room for.
abbrev pub Halts : List ℕ → ℕ → ℕ → List Task → ℕ → Listing → Failure → Type 0
Halts b row_room name_room tasks p l failure =
    ((task : Task) × (others : List Task) × (q : ℕ) × (m : Listing) × ListSteps b tasks p l (task ∷ others) q m × FailsTask b task q m failure)
    ⊎ ((others : List Task) × (q : ℕ) × (m : Listing) × ListSteps b tasks p l others q m × Exceeds row_room name_room m × (failure ≡ NoRoom))

-- the items of the sections that a header counts
abbrev pub section_task : Part → Task
section_task part = items part.section part.count

abbrev pub tasks_of : List ℕ → List Task
tasks_of b = map section_task (sections_of (header_of (slice_range b 0 header_size)))

-- nothing is listed, and so many pointers may be followed
abbrev pub nothing_listed : ℕ → Listing
nothing_listed most = record { rows = []; names = []; left = most }
