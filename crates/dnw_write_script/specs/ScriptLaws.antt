-- What follows from a run. Each is the clause of a public function, and so proved.
use Rattle.std.specs.Prelude.{◌≡◌, ℕ, ◌+◌, ◌≤◌, max, Bool, true, List, length, slice_range, Ok}
use Rattle.std.specs.List.{AllByRecursion}
use Rattle.dnw_base.specs.declared.error.ProtoError.{ProtoError}
use Rattle.dnw_base.specs.RecordTypes.{type_code, type_of_code}
use Rattle.dnw_base.specs.DnsClasses.{class_code, class_of_code}
use Rattle.dnw_write.specs.declared.encoder.modes.NameEncoding.{NameEncoding}
use Rattle.dnw_write.specs.Encoder.{Encoder, mode_of_rdata}
use Rattle.dnw_write.specs.EncoderLaws.{StaysBounded}
use Rattle.dnw_write.specs.EmittedName.{in_mode}
use Rattle.dnw_base.specs.Limits.{max_message}
use Rattle.dnw_write_script.specs.declared.wire_record.WireRecord.{WireRecord}
use Rattle.dnw_write_script.specs.declared.wire_record.WireData.{WireData}
use Rattle.dnw_write_script.specs.declared.wire_record.WireData.TheVariants as rdata
use Rattle.dnw_record.specs.Records.{HasDataName, RecordAt, RecordValue}
use Rattle.dnw_write_script.specs.declared.script.Reply.{Reply}
use Rattle.dnw_write_script.specs.declared.script.Reply.TheVariants.{Refused}
use Rattle.dnw_write_script.specs.declared.script.Part.{Part}
use Rattle.dnw_write_script.specs.declared.script.Item.{Item}
use Rattle.dnw_write_script.specs.Script.{Action, EmitsPart, EmitsScriptItem, write_record}
use Rattle.dnw_write_script.specs.Pieces.{RecordStands, account_from, opening}
use Rattle.dnw_write_script.specs.Replies.{RepliesTo}
use Rattle.dnw_write_script.specs.Runs.{Runs, RunsStep, IsUseful, beginning}
use Rattle.dnw_write_script.specs.Finished.{Finished, Shortest, largest_max}

-- Each step has the reply that its definition says.
abbrev pub RunsReply : Type 0
RunsReply = (old : List ℕ) (candidates names : ℕ) (actions : List Action) (replies : List Reply) (w : Encoder)
    → Runs (opening (length old)) (beginning old candidates names) actions replies w → RepliesTo (opening (length old)) actions replies

-- The finished bytes hold the pieces.
abbrev pub RunsFinish : Type 0
RunsFinish = (old : List ℕ) (candidates names : ℕ) (actions : List Action) (replies : List Reply) (w : Encoder)
    → Runs (opening (length old)) (beginning old candidates names) actions replies w → Finished old actions replies w.bytes

-- Every candidate is usable at the end.
abbrev pub RunsStayUseful : Type 0
RunsStayUseful = (old : List ℕ) (candidates names : ℕ) (actions : List Action) (replies : List Reply) (w : Encoder)
    → Runs (opening (length old)) (beginning old candidates names) actions replies w → AllByRecursion (IsUseful w) w.candidates

-- Names are as short as possible.
abbrev pub RunsAreShortest : Type 0
RunsAreShortest = (old : List ℕ) (candidates names : ℕ) (actions : List Action) (replies : List Reply) (w : Encoder)
    → Runs (opening (length old)) (beginning old candidates names) actions replies w → Shortest (length old) candidates names actions replies

-- The finished bytes are no more than the old ones, or than the largest maximum that was in force: that of a message at first.
abbrev pub RunsStayBounded : Type 0
RunsStayBounded = (old : List ℕ) (candidates names : ℕ) (actions : List Action) (replies : List Reply) (w : Encoder)
    → Runs (opening (length old)) (beginning old candidates names) actions replies w
    → length w.bytes ≤ max (length old) (largest_max max_message actions)

-- An accepted part of a script, and an accepted item, leaves the buffer no longer than it was, or than the maximum.
abbrev pub PartsOfScriptsStayBounded : Type 0
PartsOfScriptsStayBounded = (part : Part) (v w : Encoder) → v.offset ≡ length v.bytes → EmitsPart part v (Ok tt) w → StaysBounded v w

abbrev pub ItemsOfScriptsStayBounded : Type 0
ItemsOfScriptsStayBounded = (item : Item) (v w : Encoder) → v.offset ≡ length v.bytes → EmitsScriptItem item v (Ok tt) w → StaysBounded v w

-- A record that is refused after any steps leaves the whole encoder, the count of names included.
abbrev pub RunsUndoRecords : Type 0
RunsUndoRecords = (old : List ℕ) (candidates names : ℕ) (actions : List Action) (replies : List Reply) (v w : Encoder) (r : WireRecord)
    (error : ProtoError) (len : ℕ) → Runs (opening (length old)) (beginning old candidates names) actions replies v
    → RunsStep (account_from (opening (length old)) actions replies) v (write_record r) (Refused error len) w → w ≡ v

-- the data of a record of a message are these bytes, or this name as it was written
abbrev pub HasData : RecordValue → NameEncoding → Bool → WireData → Type 0
HasData x mode canonical (rdata.Bytes bytes) = slice_range x.message x.start (x.start + x.len) ≡ bytes.items
HasData x mode canonical (rdata.Name name encoding) =
    HasDataName x (record { is_fqdn = true; labels = in_mode (mode_of_rdata encoding canonical mode) name.labels })

-- A record that stands in a message is read there as a record of its owner, with its type and class by their codes, its time
-- to live, and its data.
abbrev pub StandingRecordsAreRead : Type 0
StandingRecordsAreRead = (b : List ℕ) (mode : NameEncoding) (canonical : Bool) (r : WireRecord) (p e : ℕ) → RecordStands b mode canonical r p e
    → (x : RecordValue) × RecordAt b p x e × (x.owner ≡ in_mode mode r.owner.labels)
    × (x.record_type ≡ type_of_code (type_code r.record_type)) × (x.class ≡ class_of_code (class_code r.class)) × (x.ttl ≡ r.ttl)
    × HasData x mode canonical r.rdata
