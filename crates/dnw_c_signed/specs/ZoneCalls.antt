-- What the function for C puts of the digest of a zone, and why it puts none (RFC 8976, section 3.3.1).
use Rattle.std.specs.Prelude.{◌≡◌, ◌<◌, ◌⊎◌, ℕ, Some, None, List, [], ◌∷◌, length, Result}
use Rattle.dnw_base.specs.Decoder.{Decoder}
use Rattle.dnw_base.specs.Limits.{max_pointers}
use Rattle.dnw_record.specs.Records.{RecordValue}
use Rattle.dnw_record.specs.OwnedRecords.{IsCopyOf}
use Rattle.dnw_record.specs.declared.record.Record.{Record}
use Rattle.dnw_record.specs.DataPointers.{TakesDataPointers}
use Rattle.dnw_signed.specs.ZoneDigests.{FailsZoneDigest, IsZoneDigest}
use Rattle.dnw_c_base.specs.WireForms.{IsFormOf, IsNoForm}
use Rattle.dnw_c_base.specs.declared.failure.Failure.{Failure}
use Rattle.dnw_c_base.specs.declared.failure.Failure.TheVariants as why
use Rattle.dnw_c_signed.specs.PutCalls.{PutsSuch}
use Rattle.dnw_c_signed.specs.RecordCalls.{FailsToCopyRecord, IsNoNextRecord, LimitedRecordAt, TakesNextRecord, at_offset}
use Rattle.dnw_c_signed.specs.SumCalls.{FailsAs}

-- Records follow one another from p to e, and these are copies of them, in turn. Of the pointers that their owners and the names in
-- their data may follow so many are left.
pub data AreRecordCopies (records : List ℕ) : ℕ → ℕ → List Record → ℕ → ℕ → Type 0 where
  no_copies : {p left : ℕ} → AreRecordCopies records p left [] p left
  copy_first : (p q e most left rest end : ℕ) (r : RecordValue) (copy : Record) (copies : List Record)
      → LimitedRecordAt records p most r q left → TakesDataPointers r left (Some rest) → IsCopyOf r copy
      → AreRecordCopies records q rest copies e end → AreRecordCopies records p most (copy ∷ copies) e end

-- All octets are such records, which follow 65,536 pointers at most.
abbrev pub AreLimitedCopies : List ℕ → List Record → Type 0
AreLimitedCopies records copies = (left : ℕ) × AreRecordCopies records 0 max_pointers copies (length records) left

-- A record that was taken is not copied: the names in its data follow more pointers than are left; or it has no such data.
abbrev pub FailsToCopyTaken : RecordValue → ℕ → Failure → Type 0
FailsToCopyTaken r left failure =
    (TakesDataPointers r left None × (failure ≡ why.TooManyPointers))
    ⊎ ((rest : ℕ) × TakesDataPointers r left (Some rest) × FailsToCopyRecord r failure)

-- There is no next record, or it is not copied.
abbrev pub FailsToCopyNext : Decoder → ℕ → Failure → Type 0
FailsToCopyNext d most failure =
    IsNoNextRecord d most failure
    ⊎ ((r : RecordValue) × (after : Decoder) × (left : ℕ) × TakesNextRecord d most r after left × FailsToCopyTaken r left failure)

-- The records do not go on to the end: after some of them there is none, or one that is not copied.
abbrev pub FailsToCopyAll : List ℕ → Failure → Type 0
FailsToCopyAll records failure =
    (copies : List Record) × (p : ℕ) × (left : ℕ) × AreRecordCopies records 0 max_pointers copies p left × (p < length records)
    × FailsToCopyNext (at_offset records p) left failure

-- The apex has this wire form, and the records, of which these are copies, the digest.
abbrev pub HasZoneDigest : List ℕ → List ℕ → ℕ → List ℕ → Type 0
HasZoneDigest apex records algorithm own =
    (labels : List (List ℕ)) × (copies : List Record) × IsFormOf apex labels × AreLimitedCopies records copies
    × IsZoneDigest labels copies algorithm own

-- The apex is no wire form; or the records are not copied; or there is no digest of them.
abbrev pub FailsToDigestZone : List ℕ → List ℕ → ℕ → Failure → Type 0
FailsToDigestZone apex records algorithm failure =
    IsNoForm apex failure
    ⊎ ((labels : List (List ℕ)) × IsFormOf apex labels × FailsToCopyAll records failure)
    ⊎ ((labels : List (List ℕ)) × (copies : List Record) × IsFormOf apex labels × AreLimitedCopies records copies
    × FailsAs (FailsZoneDigest copies algorithm) failure)

abbrev pub PutsZoneDigest : List ℕ → List ℕ → ℕ → List ℕ → List ℕ → Result ℕ Failure → Type 0
PutsZoneDigest apex records algorithm old new result =
    PutsSuch (HasZoneDigest apex records algorithm) (FailsToDigestZone apex records algorithm) old new result
