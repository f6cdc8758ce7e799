-- Which records are a transfer of a zone: a whole zone (RFC 5936, section 2.2), or its changes since a version (RFC 1995, section 4).
use Rattle.std.specs.Prelude.{◌≡◌, ◌≢◌, ◌++◌, ◌-◌, ℕ, true, nat_le, if◌then◌else◌, Option, Some, None, List, [], ◌∷◌, length, take, drop}
use Rattle.std.specs.Int.{w32, from_be_bytes}
use Rattle.std.specs.List.{AllByRecursion}
use Rattle.dns_names_wire.specs.Words.{RecordValue, class_code, data_octets, is_in, is_same, soa_code, type_code}
use Rattle.ans_transfer.specs.declared.request.Kind.{Kind}

-- A request for a transfer: the name of the zone, its class, what is asked for, and the ID of the request.
pub record RequestValue : Type 0 where
  pub zone : List (List ℕ)
  pub class : ℕ
  pub kind : Kind
  pub id : ℕ

-- ---- records

-- the fewest octets of the data of SOA: two names of one octet, and five numbers (RFC 1035, section 3.3.13)
abbrev pub least_start : ℕ
least_start = 22

-- the octets of the data of SOA that follow the serial number: four numbers
abbrev pub after_serial : ℕ
after_serial = 16

-- the number that these octets end with
abbrev pub last_number : List ℕ → ℕ
last_number octets = from_be_bytes w32 (drop (length octets - 4) octets)

-- the serial number that the data of SOA have, if they are long enough (RFC 1035, section 3.3.13)
unfoldable pub serial_of : RecordValue → Option ℕ
serial_of r =
    let octets = data_octets r in
    if nat_le least_start (length octets) then Some (last_number (take (length octets - after_serial) octets)) else None

-- The record is the zone's SOA record with this serial number.
pub record IsStart (asked : RequestValue) (serial : ℕ) (r : RecordValue) : Type 0 where
  pub of_class : class_code r.class ≡ asked.class
  pub in_zone : is_in asked.zone r.owner ≡ true
  pub of_type : type_code r.record_type ≡ soa_code
  pub at_apex : is_same r.owner asked.zone ≡ true
  pub has_serial : serial_of r ≡ Some serial

-- The record is another one of the zone.
pub record IsOther (asked : RequestValue) (r : RecordValue) : Type 0 where
  pub of_class : class_code r.class ≡ asked.class
  pub in_zone : is_in asked.zone r.owner ≡ true
  pub of_type : type_code r.record_type ≢ soa_code

abbrev pub AreOthers : RequestValue → List RecordValue → Type 0
AreOthers asked records = AllByRecursion (IsOther asked) records

-- ---- a whole zone

-- A whole zone: its SOA record, its other records, and its SOA record again (RFC 5936, section 2.2).
pub record IsWholeZone (asked : RequestValue) (serial : ℕ) (records : List RecordValue) : Type 0 where
  pub first : RecordValue
  pub others : List RecordValue
  pub last : RecordValue
  pub starts : IsStart asked serial first
  pub zone : AreOthers asked others
  pub ends : IsStart asked serial last
  pub are : records ≡ first ∷ (others ++ last ∷ [])

-- ---- changes

-- A step from a version to the next: the SOA record of the one, the records that are deleted, the SOA record of the other, and the records
-- that are added (RFC 1995, section 4).
pub record StepValue : Type 0 where
  pub old : RecordValue
  pub deleted : List RecordValue
  pub new : RecordValue
  pub added : List RecordValue

-- the records of steps
abbrev pub step_records : List StepValue → List RecordValue
step_records [] = []
step_records (s ∷ steps) = s.old ∷ (s.deleted ++ s.new ∷ (s.added ++ step_records steps))

-- A step leads from the version with one serial number to that with the other.
pub record IsChangeStep (asked : RequestValue) (from to : ℕ) (s : StepValue) : Type 0 where
  pub starts : IsStart asked from s.old
  pub deletes : AreOthers asked s.deleted
  pub ends : IsStart asked to s.new
  pub adds : AreOthers asked s.added

-- Steps lead from one version to another, each from where the one before it led, and end once they are there.
abbrev pub AreSteps : RequestValue → ℕ → ℕ → List StepValue → Type 0
AreSteps asked from to [] = from ≡ to
AreSteps asked from to (s ∷ steps) = (from ≢ to) × (serial : ℕ) × IsChangeStep asked from serial s × AreSteps asked serial to steps

-- The changes since a version: the SOA record of the newest, the steps to it, and its SOA record again (RFC 1995, section 4).
pub record AreChanges (asked : RequestValue) (from to : ℕ) (records : List RecordValue) : Type 0 where
  pub first : RecordValue
  pub steps : List StepValue
  pub last : RecordValue
  pub starts : IsStart asked to first
  pub lead : AreSteps asked from to steps
  pub ends : IsStart asked to last
  pub are : records ≡ first ∷ (step_records steps ++ last ∷ [])
