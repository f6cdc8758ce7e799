-- How a record is written (RFC 1035, section 4.1.3): its fields in turn, and the length once the data are written.
use Rattle.std.specs.Prelude.{◌≡◌, ℕ, ◌<◌, ◌^◌, Bool, List, ◌++◌, Ok, Err}
use Rattle.std.specs.Int.{w16, w32, to_be_bytes}
use Rattle.dnw_base.specs.declared.record_type.RecordType.{RecordType}
use Rattle.dnw_base.specs.declared.dns_class.DNSClass.{DNSClass}
use Rattle.dnw_base.specs.RecordTypes.{type_code}
use Rattle.dnw_base.specs.DnsClasses.{class_code}
use Rattle.dnw_base.specs.Names.{NameValue}
use Rattle.dnw_write.specs.declared.encoder.modes.NameEncoding.{NameEncoding}
use Rattle.dnw_write.specs.declared.encoder.modes.RDataEncoding.{RDataEncoding}
use Rattle.dnw_write.specs.Encoder.{Encoder, Writes, mode_of_rdata}
use Rattle.dnw_write.specs.Emitting.{Outcome, Emits}
use Rattle.dnw_write.specs.EmittedName.{EmitsName}
use Rattle.dnw_write.specs.Marks.{mark_of, rewound}
use Rattle.dnw_write_script.specs.Parts.{EmitsSized, Then, WirePart, Write, bytes_part, name_part, in_encoding}
use Rattle.dnw_write_script.specs.declared.wire_record.WireRecord.{WireRecord}
use Rattle.dnw_write_script.specs.declared.wire_record.WireData.{WireData}
use Rattle.dnw_write_script.specs.declared.wire_record.WireData.TheVariants.{Bytes, Name}

-- ---- data

-- A name is written in the mode for such data, and the former mode put back.
abbrev pub EmitsDataName : NameValue → RDataEncoding → Encoder → Outcome → Encoder → Type 0
EmitsDataName name encoding v outcome w =
    (u : Encoder) × EmitsName name (in_encoding v (mode_of_rdata encoding v.canonical v.encoding)) outcome u × (w ≡ in_encoding u v.encoding)

abbrev pub EmitsData : Emits WireData
EmitsData (Bytes bytes) v outcome w = Writes v bytes.items outcome w
EmitsData (Name name encoding) v outcome w = EmitsDataName name encoding v outcome w

-- the part that data are, by the mode in force, in canonical form or not
abbrev pub data_part : NameEncoding → Bool → WireData → WirePart
data_part mode canonical (Bytes bytes) = bytes_part bytes.items
data_part mode canonical (Name name encoding) = name_part (mode_of_rdata encoding canonical mode) name

-- ---- records

-- the type, the class and the time to live
abbrev pub fixed_octets : RecordType → DNSClass → ℕ → List ℕ
fixed_octets record_type class ttl = to_be_bytes w16 (type_code record_type) ++ (to_be_bytes w16 (class_code class) ++ to_be_bytes w32 ttl)

-- The numbers of a record fit their fields, as those of the code do.
abbrev pub FixedFit : RecordType → DNSClass → ℕ → Type 0
FixedFit record_type class ttl = (type_code record_type < 2 ^ 16) × (class_code class < 2 ^ 16) × (ttl < 2 ^ 32)

-- One write is done, then octets are written, and then what another write makes, after its length.
abbrev pub InOrder : Write → List ℕ → Write → Write
InOrder first fixed last = Then first (Then (λ v. Writes v fixed) (EmitsSized last))

-- The owner is written, then the type, the class and the time to live, and then data after their length.
abbrev pub EmitsInOrder : NameValue → List ℕ → Write → Write
EmitsInOrder owner fixed write = InOrder (EmitsName owner) fixed write

-- Fields that fit are written whole, or undone whole: then the encoder is back at its mark, whichever failed.
abbrev pub EmitsWhole : Type 0 → Write → Write
EmitsWhole Fit fields v (Ok done) w = Fit × fields v (Ok tt) w
EmitsWhole Fit fields v (Err error) w = (u : Encoder) × fields v (Err error) u × (w ≡ rewound u (mark_of v))

abbrev pub wire_fixed : WireRecord → List ℕ
wire_fixed r = fixed_octets r.record_type r.class r.ttl

abbrev pub EmitsFields : Emits WireRecord
EmitsFields r = EmitsInOrder r.owner (wire_fixed r) (EmitsData r.rdata)

abbrev pub NumbersFit : WireRecord → Type 0
NumbersFit r = FixedFit r.record_type r.class r.ttl

abbrev pub EmitsRecord : Emits WireRecord
EmitsRecord r = EmitsWhole (NumbersFit r) (EmitsFields r)
