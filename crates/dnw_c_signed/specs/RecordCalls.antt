-- Which records of a message the functions for C read, and why they read none.
use Rattle.std.specs.Prelude.{◌≡◌, ◌<◌, ◌⊎◌, ℕ, ◌+◌, List, [], ◌∷◌, length}
use Rattle.dnw_base.specs.Decoder.{Decoder}
use Rattle.dnw_base.specs.Limits.{max_pointers}
use Rattle.dnw_base.specs.declared.error.DecodeError.{DecodeError}
use Rattle.dnw_c_base.specs.Failures.{of_decode}
use Rattle.dnw_c_base.specs.declared.failure.Failure.{Failure}
use Rattle.dnw_c_base.specs.declared.failure.Failure.TheVariants as why
use Rattle.dnw_record.specs.DataCopies.{FailsToCopy, data_start, record_kinds}
use Rattle.dnw_record.specs.declared.rdata.RDataError.{RDataError}
use Rattle.dnw_record.specs.declared.rdata.RDataError.TheVariants.{Field, Memory}
use Rattle.dnw_record.specs.Records.{FailsRecord, RecordAt, RecordValue}

-- a decoder at an offset of a message
abbrev pub at_offset : List ℕ → ℕ → Decoder
at_offset message start = record { bytes = message; index = start }

-- There is a record at an offset.
abbrev pub HasRecordAt : List ℕ → ℕ → RecordValue → Type 0
HasRecordAt message p r = (e : ℕ) × RecordAt message p r e

-- There is none: the offset is past the message, or no record can be read there.
abbrev pub FailsRecordAt : List ℕ → ℕ → Failure → Type 0
FailsRecordAt message p failure =
    ((length message < p) × (failure ≡ why.MessageCut))
    ⊎ ((error : DecodeError) × FailsRecord (at_offset message p) error × (failure ≡ of_decode error))

-- why the data of a record are not copied
abbrev pub of_rdata : RDataError → Failure
of_rdata (Field error) = of_decode error.cause
of_rdata Memory = why.NoMemory

-- The data of a record are no fields of its class and type, or memory ran out.
abbrev pub FailsToCopyRecord : RecordValue → Failure → Type 0
FailsToCopyRecord r failure =
    (error : RDataError) × FailsToCopy (record_kinds r) (data_start r) error × (failure ≡ of_rdata error)

-- ---- one after another

-- A record goes from p to e. The pointers of its owner are taken from those that may be followed: so many are left.
abbrev pub LimitedRecordAt : List ℕ → ℕ → ℕ → RecordValue → ℕ → ℕ → Type 0
LimitedRecordAt message p most r e left = (at : RecordAt message p r e) × (left + at.pointers ≡ most)

-- The decoder was at such a record, and is after it now.
abbrev pub TakesNextRecord : Decoder → ℕ → RecordValue → Decoder → ℕ → Type 0
TakesNextRecord before most r after left =
    (e : ℕ) × LimitedRecordAt before.bytes before.index most r e left × (after ≡ record { bytes = before.bytes; index = e })

-- There is no record at the cursor, or one whose owner follows more pointers than are left.
abbrev pub IsNoNextRecord : Decoder → ℕ → Failure → Type 0
IsNoNextRecord d left failure =
    ((error : DecodeError) × FailsRecord d error × (failure ≡ of_decode error))
    ⊎ ((r : RecordValue) × (e : ℕ) × (at : RecordAt d.bytes d.index r e) × (left < at.pointers) × (failure ≡ why.TooManyPointers))

-- Records follow one another from p to e, and of the pointers that their owners may follow so many are left.
pub data AreRecords (message : List ℕ) : ℕ → ℕ → List RecordValue → ℕ → ℕ → Type 0 where
  no_records : {p left : ℕ} → AreRecords message p left [] p left
  record_first : (p q e most left end : ℕ) (r : RecordValue) (records : List RecordValue)
      → LimitedRecordAt message p most r q left → AreRecords message q left records e end → AreRecords message p most (r ∷ records) e end

-- All octets from an offset on are these records, and their owners follow 65,536 pointers at most.
abbrev pub AreLimitedRecords : List ℕ → ℕ → List RecordValue → Type 0
AreLimitedRecords message start records = (left : ℕ) × AreRecords message start max_pointers records (length message) left

-- There is no next record, or memory ran out.
abbrev pub FailsToReadNext : Decoder → ℕ → Failure → Type 0
FailsToReadNext d left failure = IsNoNextRecord d left failure ⊎ (failure ≡ why.NoMemory)

-- The records do not go on to the end: the offset at which they begin is past it; or after some of them, before the end, there is
-- none.
abbrev pub FailsToRead : List ℕ → ℕ → Failure → Type 0
FailsToRead message start failure =
    ((length message < start) × (failure ≡ why.MessageCut))
    ⊎ ((records : List RecordValue) × (p : ℕ) × (left : ℕ) × AreRecords message start max_pointers records p left × (p < length message)
    × FailsToReadNext (at_offset message p) left failure)
