-- What the functions for C put of a record as text, and why there is none (RFC 1035, section 5.1).
use Rattle.std.specs.Prelude.{◌≡◌, ◌<◌, ◌⊎◌, ℕ, List, length, Result}
use Rattle.dnw_zone_data.specs.DataTexts.{IsDataText}
use Rattle.dnw_zone_record.specs.RecordLines.{record_line}
use Rattle.dnw_base.specs.declared.error.DecodeError.{DecodeError}
use Rattle.dnw_c_base.specs.Failures.{of_decode}
use Rattle.dnw_c_base.specs.Offsets.{at_offset}
use Rattle.dnw_c_base.specs.declared.failure.Failure.{Failure}
use Rattle.dnw_c_base.specs.declared.failure.Failure.TheVariants.{MessageCut, NoMemory}
use Rattle.dnw_c_base.specs.Results.{Puts, Refuses}
use Rattle.dnw_record.specs.Records.{FailsRecord, RecordAt, RecordValue}
use Rattle.dnw_c_zone.specs.declared.printing.PrintedRecord.{PrintedRecord}

-- The line is that of a record.
abbrev pub IsLine : RecordValue → List ℕ → Type 0
IsLine r line = (text : List ℕ) × IsDataText r text × (line ≡ record_line r text)

-- No record is at an offset of a message: the offset is past it, or none can be read there.
abbrev pub HasNoRecordAt : List ℕ → ℕ → Failure → Type 0
HasNoRecordAt message start failure =
    ((length message < start) × (failure ≡ MessageCut))
    ⊎ ((error : DecodeError) × FailsRecord (at_offset message start) error × (failure ≡ of_decode error))

-- The line of a record that ends at an offset is put, unless memory runs out.
abbrev pub PutsLine : RecordValue → ℕ → List ℕ → List ℕ → Result PrintedRecord Failure → Type 0
PutsLine r end old new result =
    ((line : List ℕ) × IsLine r line × Puts line (record { len = length line; end = end }) old new result)
    ⊎ Refuses (λ failure. failure ≡ NoMemory) old new result

-- The record at an offset of a message is put as a line.
abbrev pub PutsRecordLine : List ℕ → ℕ → List ℕ → List ℕ → Result PrintedRecord Failure → Type 0
PutsRecordLine message start old new result =
    ((r : RecordValue) × (end : ℕ) × RecordAt message start r end × PutsLine r end old new result)
    ⊎ Refuses (HasNoRecordAt message start) old new result
