-- A set of records as a signature covers it (RFC 4034, sections 3.1.8.1 and 6.3).
use Rattle.std.specs.Prelude.{◌≡◌, ℕ, ◌-◌, ◌≤◌, ◌<◌, nat_lt, if◌then◌else◌, List, [], ◌∷◌, ◌++◌, length, drop}
use Rattle.std.specs.Cmp.Lexicographic.{slice_cmp}
use Rattle.std.specs.Int.{w16, w32, to_be_bytes}
use Rattle.std.specs.List.{AllByRecursion, AllZip, Contains, flat_map}
use Rattle.std.specs.List.Sorted.{IsStrictlySortedBy}
use Rattle.std.specs.Ordering.{nat_cmp}
use Rattle.dnw_base.specs.RecordTypes.{type_code}
use Rattle.dnw_base.specs.DnsClasses.{class_code}
use Rattle.dnw_base.specs.Labels.{wildcard}
use Rattle.dnw_base.specs.Limits.{max_message}
use Rattle.dnw_base.specs.Names.{lower, wire}
use Rattle.dnw_record.specs.declared.record.Record.{Record}
use Rattle.dnw_signed.specs.declared.error.CanonicalError.{CanonicalError}
use Rattle.dnw_signed.specs.declared.error.CanonicalError.TheVariants.{DataTooLong, Memory, NoRecords, NotInSet, TooFewLabels}
use Rattle.dnw_signed.specs.CanonicalData.{IsCanonical}

-- ---- which records are a set (RFC 2181, section 5)

-- A record has the owner of the first one, but for ASCII case, and its type and class.
pub record IsOfSet (first r : Record) : Type 0 where
  pub owner : lower r.name.labels ≡ lower first.name.labels
  pub kind : type_code r.data.record_type ≡ type_code first.data.record_type
  pub class : class_code r.data.class ≡ class_code first.data.class

-- So it has, and two octets can say how long its data are.
abbrev pub IsMember : Record → Record → Type 0
IsMember first r = IsOfSet first r × (length r.data.octets ≤ max_message)

-- The records are a set that begins with this one, and their owner has as many labels as the signature says, or more.
pub record IsSet (records : List Record) (first : Record) (labels : ℕ) : Type 0 where
  pub others : List Record
  pub begins : records ≡ first ∷ others
  pub enough : labels ≤ length first.name.labels
  pub members : AllByRecursion (IsMember first) records

-- ---- their octets

-- the owner as it was signed, by its labels in lower case: with `*` in place of the labels before the last ones, which the
-- signature counts (RFC 4034, section 3.1.8.1, and RFC 4035, section 5.3.2)
abbrev pub signed_owner : List (List ℕ) → ℕ → List (List ℕ)
signed_owner lowered labels = if nat_lt labels (length lowered) then wildcard ∷ drop (length lowered - labels) lowered else lowered

-- what each record begins with: its owner, type, class and original time to live
abbrev pub head_octets : List (List ℕ) → ℕ → ℕ → ℕ → ℕ → List ℕ
head_octets owner code class labels ttl =
    wire (signed_owner (lower owner) labels) ++ (to_be_bytes w16 code ++ (to_be_bytes w16 class ++ to_be_bytes w32 ttl))

abbrev pub set_head : Record → ℕ → ℕ → List ℕ
set_head first labels ttl = head_octets first.name.labels (type_code first.data.record_type) (class_code first.data.class) labels ttl

-- a record: what it begins with, and its data with their length
abbrev pub set_record : List ℕ → List ℕ → List ℕ
set_record head octets = head ++ (to_be_bytes w16 (length octets) ++ octets)

-- These are the canonical octets of the data of each record, in turn.
abbrev pub AreCanonical : List Record → List (List ℕ) → Type 0
AreCanonical records all = AllZip (λ r octets. IsCanonical r.data octets) records all

-- The same lists of octets, in ascending order and without duplicates: an absent octet is before a zero (RFC 4034, section
-- 6.3).
pub record IsInOrder (all sorted : List (List ℕ)) : Type 0 where
  pub ascend : IsStrictlySortedBy (slice_cmp nat_cmp) sorted
  pub each : (octets : List ℕ) → Contains sorted octets → Contains all octets
  pub every : (octets : List ℕ) → Contains all octets → Contains sorted octets

-- The records are a set, and these are its octets: each record once, in canonical order of its data.
pub record IsRecordSet (records : List Record) (labels ttl : ℕ) (octets : List ℕ) : Type 0 where
  pub first : Record
  pub set : IsSet records first labels
  pub all : List (List ℕ)
  pub canonical : AreCanonical records all
  pub sorted : List (List ℕ)
  pub in_order : IsInOrder all sorted
  pub joined : octets ≡ flat_map (set_record (set_head first labels ttl)) sorted

-- ---- failures

-- The record with this number is the first that is no member of the set, for a reason.
pub record FirstOther (first : Record) (records : List Record) (number : ℕ) (reason : Record → Type 0) : Type 0 where
  pub before : List Record
  pub r : Record
  pub after : List Record
  pub split : records ≡ before ++ r ∷ after
  pub count : length before ≡ number
  pub members : AllByRecursion (IsMember first) before
  pub other : reason r

-- Why there are no octets of records that begin with this one.
abbrev pub FailsSetFrom : Record → List Record → ℕ → CanonicalError → Type 0
FailsSetFrom first records labels TooFewLabels = length first.name.labels < labels
FailsSetFrom first records labels (NotInSet number) = (labels ≤ length first.name.labels) × FirstOther first records number (λ r. ¬ (IsOfSet first r))
FailsSetFrom first records labels (DataTooLong number) =
    (labels ≤ length first.name.labels) × FirstOther first records number (λ r. IsOfSet first r × (max_message < length r.data.octets))
FailsSetFrom first records labels Memory = (labels ≤ length first.name.labels) × AllByRecursion (IsMember first) records
FailsSetFrom first records labels error = ⊥

-- Why there are no octets: there are no records, or the first that is no member; or memory ran out, and the records are a set.
abbrev pub FailsSet : List Record → ℕ → CanonicalError → Type 0
FailsSet [] labels NoRecords = Unit {0}
FailsSet [] labels error = ⊥
FailsSet (first ∷ others) labels error = FailsSetFrom first (first ∷ others) labels error
