-- A record that stands in a message is read there.
use Rattle.std.proofs.Common.{◌≡◌, ℕ, ◌+◌, ◌≤◌, List, length, Bool, refl, arith}
use Rattle.dnw_base.specs.RecordTypes.{type_code}
use Rattle.dnw_base.specs.DnsClasses.{class_code}
use Rattle.dnw_name_read.proofs.Counts.{Reads_own}
use Rattle.dnw_write.specs.declared.encoder.modes.NameEncoding.{NameEncoding}
use Rattle.dnw_write.specs.EmittedName.{in_mode}
use Rattle.dnw_write_script.specs.declared.wire_record.WireData.{WireData}
use Rattle.dnw_write_script.specs.declared.wire_record.WireData.TheVariants as rdata
use Rattle.dnw_record.specs.Records.{RecordValue, record_of}
use Rattle.dnw_write_script.proofs.Laying.{read_after}
use Rattle.dnw_write_script.specs.Pieces.{DataStand}
use Rattle.dnw_write_script.specs.ScriptLaws.{HasData, StandingRecordsAreRead}

-- data stand within the message
data_inside : (b : List ℕ) (mode : NameEncoding) (canonical : Bool) (d : WireData) (p e : ℕ) → DataStand b mode canonical d p e
    → (p ≤ e) × (e ≤ length b)
data_inside b mode canonical (rdata.Bytes bytes) p e h = (omega (arith, h.1), h.2)
data_inside b mode canonical (rdata.Name name encoding) p e h = let own = Reads_own h.1.reads in (omega (arith, own.0), own.1)

-- and are those of the record that is read
data_read : (b : List ℕ) (mode : NameEncoding) (canonical : Bool) (d : WireData) (x : RecordValue) (e : ℕ) → x.message ≡ b → x.start + x.len ≡ e
    → DataStand b mode canonical d x.start e → HasData x mode canonical d
data_read b mode canonical (rdata.Bytes bytes) x e message ends h = rw (message, ends) h.0
data_read b mode canonical (rdata.Name name encoding) x e message ends h = (refl, h.0, rw (message, ends) h.1)

pub records_are_read : StandingRecordsAreRead
records_are_read b mode canonical r p e h =
    let o = h.owner_end in
    let inside = data_inside b mode canonical r.rdata (o + 10) e h.rdata in
    let (at, kind, class, ttl, ends) =
    read_after b (in_mode mode r.owner.labels) p o h.owner.0 e (type_code r.record_type) (class_code r.class) r.ttl h.owner.1 h.fields.0 h.fit inside.0 inside.1 h.few in
    (record_of b (in_mode mode r.owner.labels) o, at, refl, kind, class, ttl, data_read b mode canonical r.rdata (record_of b (in_mode mode r.owner.labels) o) e refl ends h.rdata)
