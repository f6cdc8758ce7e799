-- Zones: their names, and the records that each owns (RFC 1034, sections 3.6 and 4.2; RFC 4592, section 2.2).
use Rattle.std.specs.Prelude.{◌≡◌, ◌==◌, ◌<◌, ◌≤◌, ℕ, Bool, true, false, List, length, slice_index_or, slice_range}
use Rattle.std.specs.List.{filter, list_any, AllByRecursion}
use Rattle.std.specs.Ordering.{is_lt}
use Rattle.ans_store.specs.declared.lookup.Node.{Node}
use Rattle.dns_names_wire.specs.Words.{OwnersAreInOrder, RecordValue, is_in, is_same, labels_cmp, soa_code, type_code}

-- A zone: the name of its apex, and its records.
pub record ZoneValue : Type 0 where
  pub apex : List (List ℕ)
  pub records : List RecordValue

-- the records that a name owns
unfoldable pub owned_by : List (List ℕ) → List RecordValue → List RecordValue
owned_by name records = filter (λ r. is_same r.owner name) records

-- A name exists if it or a name below it owns a record (RFC 4592, section 2.2.2). So a name between two others may exist without a
-- record.
unfoldable pub name_exists : List (List ℕ) → List RecordValue → Bool
name_exists name records = list_any (λ r. is_in name r.owner) records

-- One of these records has this type.
abbrev pub have_type : ℕ → List RecordValue → Bool
have_type code records = list_any (λ r. type_code r.record_type == code) records

-- A zone that may be asked: its records are in canonical order of their owners, each is in the zone, and the apex has an SOA record
-- (RFC 1034, section 4.2.1).
pub record IsZone (zone : ZoneValue) : Type 0 where
  pub in_order : OwnersAreInOrder zone.records
  pub in_zone : AllByRecursion (λ r. is_in zone.apex r.owner ≡ true) zone.records
  pub has_soa : have_type soa_code (owned_by zone.apex zone.records) ≡ true

-- The record of this number is the first whose owner is not in the zone.
pub record IsFirstOutside (apex : List (List ℕ)) (records : List RecordValue) (number : ℕ) : Type 0 where
  pub within : number < length records
  pub outside : (d : RecordValue) → is_in apex (slice_index_or records number d).owner ≡ false
  pub others : (k : ℕ) (d : RecordValue) → k < number → is_in apex (slice_index_or records k d).owner ≡ true

-- This is the number of the first record whose owner is the name or after it, or of all records if there is none.
pub record IsFirstFrom (records : List RecordValue) (name : List (List ℕ)) (number : ℕ) : Type 0 where
  pub within : number ≤ length records
  pub before : (k : ℕ) (d : RecordValue) → k < number → is_lt (labels_cmp (slice_index_or records k d).owner name) ≡ true
  pub others : (k : ℕ) (d : RecordValue) → number ≤ k → k < length records → is_lt (labels_cmp (slice_index_or records k d).owner name) ≡ false

-- The records that a name owns are those from one number up to another, and it is known whether the name exists.
pub record IsNode (records : List RecordValue) (name : List (List ℕ)) (node : Node) : Type 0 where
  pub ordered : node.start ≤ node.end
  pub within : node.end ≤ length records
  pub owned : slice_range records node.start node.end ≡ owned_by name records
  pub known : node.exists ≡ name_exists name records
