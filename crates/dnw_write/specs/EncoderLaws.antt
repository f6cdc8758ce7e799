-- What follows from the definitions of writing. Each is the clause of a public function, and so proved.
use Rattle.std.specs.Prelude.{◌≡◌, ℕ, ◌+◌, ◌≤◌, max, List, [], ◌++◌, length, Ok, Err}
use Rattle.dnw_base.specs.declared.error.ProtoError.TheVariants.{Memory}
use Rattle.dnw_base.specs.Names.{NameValue, AreLabels, encoded_size, labels_wire}
use Rattle.dnw_name_read.specs.Reading.{NameAt, TakesName}
use Rattle.dnw_write.specs.Encoder.{Encoder, HasRoom, HoldsOctets, Writes, fresh, filled, reserved, moved_to}
use Rattle.dnw_write.specs.Emitting.{Outcome, Emits, Frame, InTurn}
use Rattle.dnw_write.specs.EmittedName.{EmitsName, Points, in_mode, pointer_to}

-- the buffer is no longer than it was, or than the maximum
abbrev pub StaysBounded : Encoder → Encoder → Type 0
StaysBounded v w = length w.bytes ≤ max (length v.bytes) v.max_size

-- No accepted write leaves a buffer longer than the greater of its old length and the maximum, and the offset stays
-- within the buffer.
abbrev pub WritesStayBounded : Type 0
WritesStayBounded = (v w : Encoder) (bytes : List ℕ) → v.offset ≤ length v.bytes → Writes v bytes (Ok tt) w
    → StaysBounded v w × (w.offset ≤ length w.bytes)

-- nor does a place that is kept
abbrev pub PlacesStayBounded : Type 0
PlacesStayBounded = (v : Encoder) (n : ℕ) → v.offset ≤ length v.bytes → HasRoom v n
    → StaysBounded v (reserved v n) × (v.offset + n ≡ length (reserved v n).bytes)

-- A place that is filled leaves the buffer as long as it was.
abbrev pub FillsStayBounded : Type 0
FillsStayBounded = (v : Encoder) (place : ℕ) (bytes : List ℕ) → v.offset ≤ length v.bytes → HoldsOctets v place (length bytes)
    → length (filled v place bytes).bytes ≡ length v.bytes

-- Nor do items in turn, where none of them does.
abbrev pub ItemsStayBounded : {X : Type 0} → Emits X → Type 0
ItemsStayBounded {X} emits =
    ((x : X) (v w : Encoder) → v.offset ≡ length v.bytes → emits x v (Ok tt) w → StaysBounded v w)
    → (v w : Encoder) (xs : List X) → v.offset ≡ length v.bytes → InTurn emits v xs w → StaysBounded v w

-- Bytes that are written over a place take no memory, since as many stand there.
abbrev pub FillsTakeNoMemory : Type 0
FillsTakeNoMemory = (v w : Encoder) (place : ℕ) (bytes : List ℕ) → v.offset ≤ length v.bytes → HoldsOctets v place (length bytes)
    → Writes (moved_to v place) bytes (Err Memory) w → ⊥

-- Items in turn keep the frame of `emit`.
abbrev pub ItemsKeepFrame : {X : Type 0} → Emits X → Type 0
ItemsKeepFrame {X} emits = (v w : Encoder) (xs : List X) → v.offset ≡ length v.bytes → InTurn emits v xs w → Frame v (Ok tt) w

-- So does what follows an accepted part.
abbrev pub FramesFollow : Type 0
FramesFollow = (v m w : Encoder) (outcome : Outcome) → v.offset ≡ length v.bytes
    → Frame v (Ok tt) m → Frame m outcome w → Frame v outcome w

-- An accepted name is read at its start at once, with its labels as they were written.
abbrev pub NameIsRead : Type 0
NameIsRead = (name : NameValue) (v w : Encoder) → v.offset ≤ length v.bytes → EmitsName name v (Ok tt) w
    → (pointers : ℕ) × NameAt w.bytes v.offset (in_mode v.encoding name.labels) w.offset pointers

-- It leaves the buffer no longer than it was, or than the maximum, and the offset within it.
abbrev pub NamesStayBounded : Type 0
NamesStayBounded = (name : NameValue) (v w : Encoder) → v.offset ≤ length v.bytes → EmitsName name v (Ok tt) w
    → StaysBounded v w × (w.offset ≤ length w.bytes)

-- It takes no more bytes than its uncompressed form.
abbrev pub NamesTakeNoMore : Type 0
NamesTakeNoMore = (name : NameValue) (v w : Encoder) → EmitsName name v (Ok tt) w → w.offset ≤ v.offset + encoded_size name.labels

-- A pointer saves a byte at least.
abbrev pub PointersSave : Type 0
PointersSave = (v : Encoder) (labels front back : List (List ℕ)) (place : ℕ) → AreLabels labels → Points v labels front back place
    → length (labels_wire front ++ pointer_to place) + 1 ≤ encoded_size labels

-- The bytes of a name are read as a name with its labels, byte for byte, and to their end.
abbrev pub NameComesBack : Type 0
NameComesBack = (name : NameValue) (w : Encoder) → EmitsName name (fresh [] 0) (Ok tt) w
    → TakesName (record { bytes = w.bytes; index = 0 }) (record { bytes = w.bytes; index = length w.bytes }) name.labels 0
