-- Records that are kept one after another in wire form (RFC 1035, section 3.2.1), their owners without a pointer.
use Rattle.std.specs.Prelude.{◌≡◌, ◌+◌, ◌<◌, ◌≤◌, ◌==◌, ℕ, zero, suc, if◌then◌else◌, List, [], ◌∷◌, length, take, drop, slice_index, slice_range}
use Rattle.dns_names_wire.specs.Words.{AreLabels, FailsRecord, RecordAt, RecordValue, encoded_size, max_name, record_of, wire}
use Rattle.dns_names_wire.specs.declared.error.DecodeError.{DecodeError}
use Rattle.ans_store.specs.declared.error.StoreError.{StoreError}
use Rattle.ans_store.specs.declared.error.StoreError.TheVariants.{Memory, NoRecord, PointerInOwner, TooLong}

-- the most octets of all records: an offset takes four octets
abbrev pub max_octets : ℕ
max_octets = 0xffff_ffff

-- the labels of the name that these octets begin with, at most so many (RFC 1035, section 3.1)
abbrev pub leading_labels : ℕ → List ℕ → List (List ℕ)
leading_labels zero octets = []
leading_labels (suc most) [] = []
leading_labels (suc most) (len ∷ octets) = if len == 0 then [] else take len octets ∷ leading_labels most (drop len octets)

-- the record at an offset, whose owner has no pointer
unfoldable pub stored_record : List ℕ → ℕ → RecordValue
stored_record octets offset =
    let owner = leading_labels max_name (drop offset octets) in record_of octets owner (offset + encoded_size owner)

-- A record is at this offset, and its owner has no pointer.
pub record IsStoredAt (octets : List ℕ) (offset : ℕ) : Type 0 where
  pub end : ℕ
  pub stands : RecordAt octets offset (stored_record octets offset) end
  pub within : offset ≤ length octets

-- The owner of a record at this offset has no pointer: its wire form is there, and after it are the other fields.
pub record HasWholeOwner (octets : List ℕ) (offset : ℕ) (r : RecordValue) : Type 0 where
  pub form : slice_range octets offset (offset + encoded_size r.owner) ≡ wire r.owner
  pub ends : r.start ≡ offset + encoded_size r.owner + 10

-- These records are one after another from one offset up to another.
abbrev pub AreRecordsFrom : List ℕ → ℕ → List RecordValue → ℕ → Type 0
AreRecordsFrom octets offset [] end = offset ≡ end
AreRecordsFrom octets offset (r ∷ records) end =
    (next : ℕ) × RecordAt octets offset r next × HasWholeOwner octets offset r × AreRecordsFrom octets next records end

-- Each of these offsets has a record whose owner has no pointer.
abbrev pub AreStoredAt : List ℕ → List ℕ → Type 0
AreStoredAt octets offsets = (k : ℕ) → k < length offsets → IsStoredAt octets (slice_index offsets k)

-- A record with its owner whole is there, and ends here.
pub record IsTaken (octets : List ℕ) (offset end : ℕ) : Type 0 where
  pub found : RecordValue
  pub stands : RecordAt octets offset found end
  pub whole : HasWholeOwner octets offset found
  pub labels : AreLabels found.owner

-- Why the record of this number is not taken there.
abbrev pub FailsToTake : List ℕ → ℕ → ℕ → StoreError → Type 0
FailsToTake octets offset number (NoRecord n) =
    (n ≡ number) × (error : DecodeError) × FailsRecord (record { bytes = octets; index = offset }) error
FailsToTake octets offset number (PointerInOwner n) =
    (n ≡ number) × (r : RecordValue) × (end : ℕ) × RecordAt octets offset r end × (¬ (HasWholeOwner octets offset r))
FailsToTake octets offset number error = ⊥

-- Some records are read, and the one after them is not.
pub record FailsAfter (octets : List ℕ) (error : StoreError) : Type 0 where
  pub records : List RecordValue
  pub offset : ℕ
  pub read : AreRecordsFrom octets 0 records offset
  pub more : offset < length octets
  pub fails : FailsToTake octets offset (length records) error

-- Why octets are no records; memory may run out for any.
abbrev pub FailsToStore : List ℕ → StoreError → Type 0
FailsToStore octets TooLong = max_octets < length octets
FailsToStore octets Memory = Unit {0}
FailsToStore octets error = FailsAfter octets error
