-- What the function for C puts of what a signature covers, and why it puts nothing (RFC 4034, section 3.1.8.1).
use Rattle.std.specs.Prelude.{◌≡◌, ◌⊎◌, ℕ, List, Result}
use Rattle.dnw_record.specs.Records.{RecordValue}
use Rattle.dnw_signed.specs.Covering.{FailsToSign, IsSigned}
use Rattle.dnw_signed.specs.declared.error.CanonicalError.{CanonicalError}
use Rattle.dnw_signed.specs.declared.error.CanonicalError.TheVariants as canonical
use Rattle.dnw_c_base.specs.Failures.{of_decode}
use Rattle.dnw_c_base.specs.declared.failure.Failure.{Failure}
use Rattle.dnw_c_base.specs.declared.failure.Failure.TheVariants as why
use Rattle.dnw_c_signed.specs.PutCalls.{PutsSuch}
use Rattle.dnw_c_signed.specs.RecordCalls.{AreLimitedRecords, FailsRecordAt, FailsToRead, HasRecordAt}

-- The octets are what the signature of the record at an offset covers of the records from another one up to the end.
abbrev pub IsSignedAt : List ℕ → ℕ → ℕ → List ℕ → Type 0
IsSignedAt message start at octets =
    (s : RecordValue) × (records : List RecordValue) × HasRecordAt message at s × AreLimitedRecords message start records
    × IsSigned s records octets

-- why there are none: the records that an RRSIG covers are a set, so `NotInSet` does not come
abbrev pub of_canonical : CanonicalError → Failure
of_canonical canonical.NoRecords = why.NotCovered
of_canonical canonical.TooFewLabels = why.TooFewLabels
of_canonical (canonical.NotInSet number) = why.Other
of_canonical (canonical.DataTooLong number) = why.DataTooLong
of_canonical (canonical.TooManyPointers number) = why.TooManyPointers
of_canonical canonical.NotRrsig = why.NotRrsig
of_canonical (canonical.RrsigField error) = of_decode error.cause
of_canonical (canonical.Field number error) = of_decode error.cause
of_canonical canonical.Memory = why.NoMemory

-- There is no record at the offset, or the others do not go on to the end; or all are there, and a signature covers nothing.
abbrev pub FailsToSignAt : List ℕ → ℕ → ℕ → Failure → Type 0
FailsToSignAt message start at failure =
    FailsRecordAt message at failure
    ⊎ FailsToRead message start failure
    ⊎ ((s : RecordValue) × (records : List RecordValue) × (error : CanonicalError) × HasRecordAt message at s
    × AreLimitedRecords message start records × FailsToSign s records error × (failure ≡ of_canonical error))

-- ---- what is put

abbrev pub PutsSigned : List ℕ → ℕ → ℕ → List ℕ → List ℕ → Result ℕ Failure → Type 0
PutsSigned message start at old new result = PutsSuch (IsSignedAt message start at) (FailsToSignAt message start at) old new result
