-- What follows from the definitions of records. Each is the clause of a public function, and so proved.
use Rattle.std.specs.Prelude.{◌≡◌, ℕ, ◌+◌, ◌-◌, ◌<◌, ◌≤◌, List, ◌++◌, length, slice_range, Ok, Err, ◌⊎◌}
use Rattle.std.specs.Int.{w16, w32, to_be_bytes}
use Rattle.dnw_base.specs.declared.error.ProtoError.{ProtoError}
use Rattle.dnw_base.specs.declared.error.ProtoError.TheVariants.{MaxBufferSizeExceeded, Memory}
use Rattle.dnw_base.specs.RecordTypes.{type_code, type_of_code}
use Rattle.dnw_base.specs.DnsClasses.{class_code, class_of_code}
use Rattle.dnw_base.specs.Limits.{max_message}
use Rattle.dnw_base.specs.Names.{encoded_size}
use Rattle.dnw_name_read.specs.Reading.{NameAt}
use Rattle.dnw_write.specs.declared.encoder.modes.NameEncoding.{NameEncoding}
use Rattle.dnw_write.specs.EmittedName.{in_mode}
use Rattle.dnw_write.specs.Encoder.{CandidatesPrecede, Encoder}
use Rattle.dnw_write.specs.EncoderLaws.{StaysBounded}
use Rattle.dnw_write.specs.CandidateLaws.{KeepsPreceding}
use Rattle.dnw_write_script.specs.declared.wire_record.WireRecord.{WireRecord}
use Rattle.dnw_write_script.specs.declared.wire_record.WireData.{WireData}
use Rattle.dnw_write_script.specs.declared.wire_record.WireData.TheVariants.{Bytes, Name}
use Rattle.dnw_write_script.specs.Parts.{EmitsCounted, EmitsWirePart, EmitsWireParts, WirePart, Write}
use Rattle.dnw_record.specs.Records.{RecordAt, RecordValue, fixed_at, fixed_size}
use Rattle.dnw_write_script.specs.WrittenRecords.{EmitsData, EmitsRecord, NumbersFit}

-- A refused record, begun at the buffer's end with every candidate before it, leaves the whole encoder.
abbrev pub RefusedRecordsUndo : Type 0
RefusedRecordsUndo = (r : WireRecord) (v w : Encoder) (error : ProtoError) → v.offset ≡ length v.bytes
    → CandidatesPrecede v → EmitsRecord r v (Err error) w → w ≡ v

-- Refused data leave it wherever they began.
abbrev pub RefusedDataUndo : Type 0
RefusedDataUndo = (rdata : WireData) (v w : Encoder) (error : ProtoError) → EmitsData rdata v (Err error) w → w ≡ v

-- ---- candidates before the offset

abbrev pub PartPrecedes : Type 0
PartPrecedes = (part : WirePart) → KeepsPreceding (EmitsWirePart part)

abbrev pub PartsPrecede : Type 0
PartsPrecede = (parts : List WirePart) → KeepsPreceding (EmitsWireParts parts)

abbrev pub CountedPrecede : Type 0
CountedPrecede = (front back : List WirePart) → KeepsPreceding (EmitsCounted front back)

abbrev pub DataPrecede : Type 0
DataPrecede = (rdata : WireData) → KeepsPreceding (EmitsData rdata)

abbrev pub RecordsPrecede : Type 0
RecordsPrecede = (r : WireRecord) → KeepsPreceding (EmitsRecord r)

-- ---- sizes

-- If it is accepted, the write leaves the buffer no longer than it was, or than the maximum, and the offset within it.
abbrev pub KeepsBounded : Write → Type 0
KeepsBounded write = (v w : Encoder) → v.offset ≤ length v.bytes → write v (Ok tt) w → StaysBounded v w × (w.offset ≤ length w.bytes)

abbrev pub PartStaysBounded : Type 0
PartStaysBounded = (part : WirePart) → KeepsBounded (EmitsWirePart part)

abbrev pub PartsStayBounded : Type 0
PartsStayBounded = (parts : List WirePart) → KeepsBounded (EmitsWireParts parts)

abbrev pub CountedStayBounded : Type 0
CountedStayBounded = (front back : List WirePart) → KeepsBounded (EmitsCounted front back)

abbrev pub DataStayBounded : Type 0
DataStayBounded = (rdata : WireData) → KeepsBounded (EmitsData rdata)

abbrev pub RecordsStayBounded : Type 0
RecordsStayBounded = (r : WireRecord) → KeepsBounded (EmitsRecord r)

-- the octets of data with a name whole
abbrev pub data_size : WireData → ℕ
data_size (Bytes bytes) = length bytes.items
data_size (Name name encoding) = encoded_size name.labels

-- the octets of a record with its names whole
abbrev pub record_size : WireRecord → ℕ
record_size r = encoded_size r.owner.labels + fixed_size + data_size r.rdata

-- The error is that of memory, or of n bytes that go past the maximum.
abbrev pub FailsForSize : Encoder → ℕ → ProtoError → Type 0
FailsForSize v n error = (error ≡ Memory) ⊎ ((error ≡ MaxBufferSizeExceeded v.max_size) × (v.max_size < v.offset + n))

-- A record is refused for its size only if it would go past the maximum with its names whole, and it takes no more bytes
-- than that.
abbrev pub RecordsFit : Type 0
RecordsFit = (r : WireRecord)
    → ((v w : Encoder) → EmitsRecord r v (Ok tt) w → w.offset ≤ v.offset + record_size r)
    × ((v w : Encoder) (error : ProtoError) → EmitsRecord r v (Err error) w → FailsForSize v (record_size r) error)

-- ---- reading back

-- the ten octets after an owner
abbrev pub fixed_and_length : ℕ → ℕ → ℕ → ℕ → List ℕ
fixed_and_length kind class ttl len = to_be_bytes w16 kind ++ (to_be_bytes w16 class ++ (to_be_bytes w32 ttl ++ to_be_bytes w16 len))

-- data that are bytes are there
abbrev pub HasBytes : List ℕ → WireData → ℕ → ℕ → Type 0
HasBytes b (Bytes bytes) p e = slice_range b p e ≡ bytes.items
HasBytes b (Name name encoding) p e = Unit {0}

-- A record is there from p to e: its owner is read at p, the ten octets after it are its fields with the number of octets
-- of its data, and its data follow. Its numbers fit their fields.
pub record LiesAt (b : List ℕ) (mode : NameEncoding) (r : WireRecord) (p e : ℕ) : Type 0 where
  pub owner_end : ℕ
  pub pointers : ℕ
  pub owner : NameAt b p (in_mode mode r.owner.labels) owner_end pointers
  pub order : owner_end + fixed_size ≤ e
  pub few : e ≤ max_message
  pub fields : fixed_at b owner_end ≡ fixed_and_length (type_code r.record_type) (class_code r.class) r.ttl (e - (owner_end + fixed_size))
  pub rdata : HasBytes b r.rdata (owner_end + fixed_size) e
  pub fit : NumbersFit r
  pub ends : e ≡ length b

-- A record that is written at the buffer's end is there at once, up to the new end.
abbrev pub RecordsLie : Type 0
RecordsLie = (r : WireRecord) (v w : Encoder) → v.offset ≡ length v.bytes → v.max_size ≤ max_message → EmitsRecord r v (Ok tt) w
    → LiesAt w.bytes v.encoding r v.offset w.offset

-- What lies there is read as a record of its owner, with its type and class by their codes, its time to live, and the octets
-- of its data.
abbrev pub RecordsAreRead : Type 0
RecordsAreRead = (b : List ℕ) (mode : NameEncoding) (r : WireRecord) (p e : ℕ) → LiesAt b mode r p e
    → (x : RecordValue) × RecordAt b p x e × (x.owner ≡ in_mode mode r.owner.labels)
    × (x.record_type ≡ type_of_code (type_code r.record_type)) × (x.class ≡ class_of_code (class_code r.class)) × (x.ttl ≡ r.ttl)
    × HasBytes b r.rdata x.start e
