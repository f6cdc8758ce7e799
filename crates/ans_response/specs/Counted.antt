-- Which records of a response count for a question and the zone whose server was asked, and what is record_seen of them.
use Rattle.std.specs.Prelude.{◌≡◌, ◌-◌, ◌==◌, ◌&&◌, ℕ, Bool, nat_le, if◌then◌else◌, Option, Some, None, List, length, drop, map}
use Rattle.std.specs.Int.{w32, from_be_bytes}
use Rattle.std.specs.List.{filter}
use Rattle.dns_names_wire.specs.Words.{NameAt, RecordValue, class_code, data_octets, is_in, record_fields, type_code}

-- A question (RFC 1035, section 4.1.2), and the zone whose server was asked.
pub record AskedValue : Type 0 where
  pub name : List (List ℕ)
  pub code : ℕ
  pub class : ℕ
  pub zone : List (List ℕ)

-- Only records of the zone and of the class count: a server is an authority for nothing else (RFC 2181, section 5.4.1).
abbrev pub counts : AskedValue → RecordValue → Bool
counts asked r = is_in asked.zone r.owner && class_code r.class == asked.class

-- ---- names in the data of records

-- The data of a record are this name, up to their end (RFC 1035, section 3.3.1; RFC 6672, section 2.1).
pub record IsTarget (r : RecordValue) (name : List (List ℕ)) : Type 0 where
  pub pointers : ℕ
  pub read : NameAt (record_fields r).reader.bytes (record_fields r).reader.index name (length (record_fields r).reader.bytes) pointers

abbrev pub Targets : Type 0
Targets = RecordValue → Option (List (List ℕ))

-- These are the names that the data of records are, and `None` for data that are no name. There is one such function: see `one_target`.
pub record AreTargets (target : Targets) : Type 0 where
  pub named : (r : RecordValue) (name : List (List ℕ)) → IsTarget r name → target r ≡ Some name
  pub others : (r : RecordValue) → ((name : List (List ℕ)) → ¬ (IsTarget r name)) → target r ≡ None

-- ---- what is record_seen of a record

-- the fewest octets of the data of SOA: two names of one octet, and five numbers (RFC 1035, section 3.3.13)
abbrev pub least_soa : ℕ
least_soa = 22

-- the last number of the data of SOA (RFC 1035, section 3.3.13)
unfoldable pub minimum_of : RecordValue → Option ℕ
minimum_of r =
    let octets = data_octets r in
    if nat_le least_soa (length octets) then Some (from_be_bytes w32 (drop (length octets - 4) octets)) else None

-- A record as it is record_seen: its owner, its type, its time to live, the name that its data are, if they are one, and their last number.
pub record Seen : Type 0 where
  pub owner : List (List ℕ)
  pub code : ℕ
  pub ttl : ℕ
  pub target : Option (List (List ℕ))
  pub minimum : Option ℕ

abbrev pub record_seen : Targets → RecordValue → Seen
record_seen target r = record { owner = r.owner; code = type_code r.record_type; ttl = r.ttl; target = target r; minimum = minimum_of r }

-- the records of a section that count, as they are record_seen
unfoldable pub counted_records : Targets → AskedValue → List RecordValue → List Seen
counted_records target asked records = map (record_seen target) (filter (counts asked) records)
