-- What the function for C puts of the sort key of a record, and why it puts nothing.
use Rattle.std.specs.Prelude.{◌⊎◌, ℕ, List, Result}
use Rattle.dnw_record.specs.Records.{RecordValue}
use Rattle.dnw_signed.specs.RecordKeys.{IsRecordKey}
use Rattle.dnw_c_base.specs.declared.failure.Failure.{Failure}
use Rattle.dnw_c_signed.specs.PutCalls.{PutsSuch}
use Rattle.dnw_c_signed.specs.RecordCalls.{FailsRecordAt, FailsToCopyRecord, HasRecordAt}

-- The octets are the sort key of the record at an offset.
abbrev pub IsRecordKeyAt : List ℕ → ℕ → List ℕ → Type 0
IsRecordKeyAt message p octets = (r : RecordValue) × HasRecordAt message p r × IsRecordKey r octets

-- There is no record at the offset; or there is, and its data are no fields of its class and type, or memory ran out.
abbrev pub FailsToKeyAt : List ℕ → ℕ → Failure → Type 0
FailsToKeyAt message p failure =
    FailsRecordAt message p failure ⊎ ((r : RecordValue) × HasRecordAt message p r × FailsToCopyRecord r failure)

abbrev pub PutsRecordKey : List ℕ → ℕ → List ℕ → List ℕ → Result ℕ Failure → Type 0
PutsRecordKey message p old new result = PutsSuch (IsRecordKeyAt message p) (FailsToKeyAt message p) old new result
