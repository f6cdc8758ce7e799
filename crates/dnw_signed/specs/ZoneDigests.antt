-- The digest of a zone by the scheme SIMPLE, as ZONEMD has it (RFC 8976, section 3.3.1).
use Rattle.std.specs.Prelude.{◌≡◌, ◌<◌, ◌≤◌, ℕ, ◌==◌, ◌&&◌, ◌||◌, ◌⊎◌, Bool, false, if◌then◌else◌, List, [], ◌∷◌, ◌++◌, length, Option, Some, None, IsTrue}
use Rattle.std.specs.Int.{w16, w32, to_be_bytes}
use Rattle.std.specs.List.{AllByRecursion, dedup, flat_map}
use Rattle.std.specs.List.Sorted.{IsPermutation, IsSorted}
use Rattle.std.specs.Ordering.{eq_by_cmp, nat_cmp, on, then_cmp}
use Rattle.std.specs.declared.cmp.Ordering.{Ordering}
use Rattle.sha2.specs.Sha512.{sha384, sha512}
use Rattle.dnw_base.specs.RecordTypes.{type_code}
use Rattle.dnw_base.specs.DnsClasses.{class_code}
use Rattle.dnw_base.specs.Limits.{max_message}
use Rattle.dnw_base.specs.Names.{lower, wire}
use Rattle.dnw_base.specs.TypeCodes.{rrsig_code, zonemd_code}
use Rattle.dnw_name_form.specs.LabelOrder.{octets_cmp}
use Rattle.dnw_name_order.specs.Order.{IsZoneOf, labels_cmp}
use Rattle.dnw_record.specs.declared.record.Record.{Record}
use Rattle.dnw_signed.specs.CanonicalData.{IsCanonical}
use Rattle.dnw_signed.specs.declared.error.DnssecError.{DnssecError}
use Rattle.dnw_signed.specs.declared.error.DnssecError.TheVariants.{DataTooLong, Memory, UnknownHash}

-- ---- records in canonical form

-- a record with its data in canonical form (RFC 4034, section 6.2)
pub record CanonicalRecord : Type 0 where
  pub owner : List (List ℕ)
  pub record_type : ℕ
  pub class : ℕ
  pub ttl : ℕ
  pub octets : List ℕ

pub record IsCanonicalRecord (r : Record) (z : CanonicalRecord) : Type 0 where
  pub owner : z.owner ≡ r.name.labels
  pub record_type : z.record_type ≡ type_code r.data.record_type
  pub class : z.class ≡ class_code r.data.class
  pub ttl : z.ttl ≡ r.ttl
  pub canonical : IsCanonical r.data z.octets

-- its octets: the owner in lower case, the type, the class, the time to live, and the data with their length
abbrev pub zone_record : CanonicalRecord → List ℕ
zone_record z =
    wire (lower z.owner) ++ (to_be_bytes w16 z.record_type ++ (to_be_bytes w16 z.class ++ (to_be_bytes w32 z.ttl ++ (to_be_bytes w16 (length z.octets) ++ z.octets))))

-- ---- their order

-- by the owner, by the type as a number, and by the data as octets (RFC 4034, sections 6.1 and 6.3; RFC 8976, section 3.3.1)
abbrev pub place_cmp : CanonicalRecord → CanonicalRecord → Ordering
place_cmp =
    then_cmp (on (λ z. z.owner) labels_cmp) (then_cmp (on (λ z. z.record_type) nat_cmp) (on (λ z. z.octets) octets_cmp))

-- records with the same owner, type and data, which are one record (RFC 8976, section 3.3.1.1)
abbrev pub is_duplicate : CanonicalRecord → CanonicalRecord → Bool
is_duplicate = eq_by_cmp place_cmp

-- the one with the least time to live is the first of them, should these differ
abbrev pub zone_cmp : CanonicalRecord → CanonicalRecord → Ordering
zone_cmp = then_cmp place_cmp (on (λ z. z.ttl) nat_cmp)

-- ---- which records are digested

-- the data of an RRSIG, which begin with the type that it covers (RFC 4034, section 3.1.1), cover ZONEMD
abbrev pub covers_zonemd : List ℕ → Bool
covers_zonemd (high ∷ low ∷ octets) = high == 0 && low == zonemd_code
covers_zonemd octets = false

-- a ZONEMD record, or an RRSIG that covers such ones
abbrev pub is_of_zonemd : ℕ → List ℕ → Bool
is_of_zonemd code octets = code == zonemd_code || (code == rrsig_code && covers_zonemd octets)

-- The digest goes into such a record: one at the apex that is of ZONEMD.
pub record HoldsDigest (apex : List (List ℕ)) (r : Record) : Type 0 where
  pub at_apex : lower r.name.labels ≡ lower apex
  pub of_zonemd : IsTrue (is_of_zonemd (type_code r.data.record_type) r.data.octets)

-- It is in the zone, at the apex or below it, and the digest goes not into it. So glue and what a cut hides are digested, and
-- records out of the zone are not (RFC 8976, section 3.3.1.1).
pub record IsDigested (apex : List (List ℕ)) (r : Record) : Type 0 where
  pub in_zone : IsZoneOf apex r.name.labels
  pub other : ¬ (HoldsDigest apex r)

-- These are the records that are digested, in canonical form. All others are left out.
pub data AreDigested (apex : List (List ℕ)) : List Record → List CanonicalRecord → Type 0 where
  no_records : AreDigested apex [] []
  first_digested : (r : Record) (z : CanonicalRecord) (records : List Record) (all : List CanonicalRecord)
      → IsDigested apex r → IsCanonicalRecord r z → AreDigested apex records all → AreDigested apex (r ∷ records) (z ∷ all)
  first_left_out : (r : Record) (records : List Record) (all : List CanonicalRecord)
      → (¬ (IsDigested apex r)) → AreDigested apex records all → AreDigested apex (r ∷ records) all

-- ---- what is hashed

-- These are records in order, each of them once.
pub record IsZoneOrder (all ordered : List CanonicalRecord) : Type 0 where
  pub sorted : List CanonicalRecord
  pub same_records : IsPermutation all sorted
  pub ascend : IsSorted zone_cmp sorted
  pub once : ordered ≡ dedup is_duplicate sorted

-- These octets are hashed: those of each record that is digested, once and in order.
pub record AreZoneOctets (apex : List (List ℕ)) (records : List Record) (octets : List ℕ) : Type 0 where
  pub all : List CanonicalRecord
  pub digested : AreDigested apex records all
  pub ordered : List CanonicalRecord
  pub in_order : IsZoneOrder all ordered
  pub joined : octets ≡ flat_map zone_record ordered

-- the hash of octets by the hash algorithm of ZONEMD: SHA-384 and SHA-512 (RFC 8976, section 5.3)
abbrev pub zone_hash : ℕ → List ℕ → Option (List ℕ)
zone_hash algorithm octets = if algorithm == 1 then Some (sha384 octets) else if algorithm == 2 then Some (sha512 octets) else None

abbrev pub IsZoneDigest : List (List ℕ) → List Record → ℕ → List ℕ → Type 0
IsZoneDigest apex records algorithm digest =
    (octets : List ℕ) × AreZoneOctets apex records octets × (zone_hash algorithm octets ≡ Some digest)

-- ---- failures

-- two octets can say how long the data are
abbrev pub HasShortData : Record → Type 0
HasShortData r = length r.data.octets ≤ max_message

-- The record with this number is the first whose data are longer.
pub record FirstTooLong (records : List Record) (number : ℕ) : Type 0 where
  pub before : List Record
  pub r : Record
  pub after : List Record
  pub split : records ≡ before ++ r ∷ after
  pub count : length before ≡ number
  pub fit : AllByRecursion HasShortData before
  pub longer : max_message < length r.data.octets

-- the hash algorithm is known
abbrev pub IsZoneHash : ℕ → Type 0
IsZoneHash algorithm = (algorithm ≡ 1) ⊎ (algorithm ≡ 2)

-- Why there is no digest: the hash algorithm is not known; it is, and data are too long; or neither, and memory ran out.
abbrev pub FailsZoneDigest : List Record → ℕ → DnssecError → Type 0
FailsZoneDigest records algorithm (UnknownHash code) = (code ≡ algorithm) × (¬ (IsZoneHash algorithm))
FailsZoneDigest records algorithm (DataTooLong number) = IsZoneHash algorithm × FirstTooLong records number
FailsZoneDigest records algorithm Memory = IsZoneHash algorithm × AllByRecursion HasShortData records
FailsZoneDigest records algorithm error = ⊥
