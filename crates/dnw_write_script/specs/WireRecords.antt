-- Records of any type, and records whose data are bytes or one name.
use Rattle.std.specs.Prelude.{◌≡◌, ℕ, Bool, true, false, List, [], ◌∷◌}
use Rattle.dnw_base.specs.Names.{wire}
use Rattle.dnw_data.specs.declared.kind.Kind.{Kind}
use Rattle.dnw_data.specs.declared.kind.Kind.TheVariants as kinds
use Rattle.dnw_data.specs.declared.kind.NameForm.{NameForm}
use Rattle.dnw_data.specs.declared.kind.NameForm.TheVariants.{Compressible, Lowered, Plain}
use Rattle.dnw_write.specs.declared.encoder.modes.RDataEncoding.{RDataEncoding}
use Rattle.dnw_write.specs.declared.encoder.modes.RDataEncoding.TheVariants.{StandardRecord, Canonical, Other}
use Rattle.dnw_write_script.specs.declared.wire_record.WireRecord.{WireRecord}
use Rattle.dnw_write_script.specs.declared.wire_record.WireData.{WireData}
use Rattle.dnw_write_script.specs.declared.wire_record.WireData.TheVariants.{Bytes, Name}
use Rattle.dnw_record.specs.declared.record.Record.{Record}
use Rattle.dnw_record.specs.DataPieces.{data_kinds, kinds_of}
use Rattle.dnw_record.specs.DataCopies.{Copies, alone}

-- the octets of data, a name in its wire form
abbrev pub wire_data_octets : WireData → List ℕ
wire_data_octets (Bytes bytes) = bytes.items
wire_data_octets (Name name encoding) = wire name.labels

-- The record has these data, read as a message that holds nothing else, and the owner, type, class and time to live.
abbrev pub IsOfWireRecord : WireRecord → Record → Type 0
IsOfWireRecord x r =
    (r.name ≡ x.owner) × (r.data.class ≡ x.class) × (r.ttl ≡ x.ttl) × (r.data.record_type ≡ x.record_type)
    × Copies (kinds_of x.class x.record_type (wire_data_octets x.rdata)) (alone (wire_data_octets x.rdata)) r.data.octets

-- how names of this form are written: as other names; whole, and lowered in canonical form; or whole (RFC 3597, section 4,
-- RFC 4034, section 6.2, and RFC 6840, section 5.1)
abbrev pub encoding_of : NameForm → RDataEncoding
encoding_of Compressible = StandardRecord
encoding_of Lowered = Canonical
encoding_of Plain = Other

abbrev pub is_name : Kind → Bool
is_name (kinds.Name form) = true
is_name kind = false

-- None of these kinds is a name.
abbrev pub HaveNoName : List Kind → Type 0
HaveNoName [] = Unit {0}
HaveNoName (kinds.Name form ∷ others) = ⊥
HaveNoName (kind ∷ others) = HaveNoName others

-- Data of these kinds are bytes if they have no name. If they are one name they are that name, fully qualified, with how the
-- table says it is written.
abbrev pub SaysData : List Kind → List ℕ → WireData → Type 0
SaysData fields own (Bytes bytes) = HaveNoName fields × (bytes.items ≡ own)
SaysData fields own (Name name encoding) =
    (form : NameForm) × (fields ≡ kinds.Name form ∷ []) × (encoding ≡ encoding_of form) × (name.is_fqdn ≡ true) × (own ≡ wire name.labels)

-- Data of these kinds are neither: they have a name and other fields.
abbrev pub HaveNameAndOthers : List Kind → Type 0
HaveNameAndOthers fields = (¬ (HaveNoName fields)) × ((form : NameForm) → fields ≡ kinds.Name form ∷ [] → ⊥)

-- The records are the same: with this owner, type, class and time to live, and these data.
abbrev pub SaysRecord : Record → WireRecord → Type 0
SaysRecord r x =
    (x.owner ≡ r.name) × (x.record_type ≡ r.data.record_type) × (x.class ≡ r.data.class) × (x.ttl ≡ r.ttl)
    × SaysData (data_kinds r.data) r.data.octets x.rdata
