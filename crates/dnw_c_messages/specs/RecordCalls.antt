-- The records of messages, and why none is read (RFC 1035, sections 3.2.1 and 4.1.3).
use Rattle.std.specs.Prelude.{◌≡◌, ◌≢◌, ◌⊎◌, ◌<◌, ◌≤◌, ℕ, ◌+◌, List, length, Result}
use Rattle.dnw_base.specs.declared.error.DecodeError.{DecodeError}
use Rattle.dnw_base.specs.RecordTypes.{type_code}
use Rattle.dnw_base.specs.DnsClasses.{class_code}
use Rattle.dnw_base.specs.Limits.{max_message, max_name}
use Rattle.dnw_base.specs.Names.{wire}
use Rattle.dnw_name_read.specs.Reading.{NameAt}
use Rattle.dnw_record.specs.DataCopies.{Copies, FailsToCopy, data_start, record_kinds}
use Rattle.dnw_record.specs.Records.{RecordAt, RecordValue, FailsRecord}
use Rattle.dnw_record.specs.declared.rdata.RDataError.{RDataError}
use Rattle.dnw_record.specs.declared.rdata.RDataError.TheVariants.{Field, Memory}
use Rattle.dnw_c_base.specs.Failures.{of_decode}
use Rattle.dnw_c_base.specs.Offsets.{HasNoName, at_offset}
use Rattle.dnw_c_base.specs.Results.{Puts, PutsWithin, Refuses}
use Rattle.dnw_c_base.specs.declared.failure.Failure.{Failure}
use Rattle.dnw_c_base.specs.declared.failure.Failure.TheVariants as why
use Rattle.dnw_c_messages.specs.declared.records.ReadRecord.{ReadRecord}

-- what C learns of a record that ends at an offset, beside its owner's wire form
abbrev pub read_record : RecordValue → ℕ → ReadRecord
read_record r end = record {
  owner_len = length (wire r.owner);
  record_type = type_code r.record_type;
  record_class = class_code r.class;
  ttl = r.ttl;
  data_offset = r.start;
  data_len = r.len;
  end = end;
}

-- no record is at this offset, and that is why
abbrev pub HasNoRecord : List ℕ → ℕ → Failure → Type 0
HasNoRecord message start failure =
    (error : DecodeError) × FailsRecord (at_offset message start) error × (failure ≡ of_decode error)

-- The record at an offset of a message is read, and its owner's wire form is put.
abbrev pub ReadsRecord : List ℕ → ℕ → List ℕ → List ℕ → Result ReadRecord Failure → Type 0
ReadsRecord message start old new result =
    ((r : RecordValue) × (end : ℕ) × RecordAt message start r end × PutsWithin max_name (wire r.owner) (read_record r end) old new result)
    ⊎ Refuses (HasNoRecord message start) old new result

-- So many octets of a message, from an offset on, are a name, which is put. Else no name is there, or its own octets are not so many.
abbrev pub PutsDataName : List ℕ → ℕ → ℕ → List ℕ → List ℕ → Result ℕ Failure → Type 0
PutsDataName message start data_len old new result =
    ((labels : List (List ℕ)) × (k : ℕ) × NameAt message start labels (start + data_len) k
    × PutsWithin max_name (wire labels) (length (wire labels)) old new result)
    ⊎ Refuses (λ failure. HasNoName message start failure
    ⊎ ((labels : List (List ℕ)) × (end : ℕ) × (k : ℕ) × NameAt message start labels end k × (end ≢ start + data_len)
    × (failure ≡ why.WrongDataLength))) old new result

-- the failure that stands for why data are not copied
abbrev pub failure_of_rdata : RDataError → Failure
failure_of_rdata (Field error) = of_decode error.cause
failure_of_rdata Memory = why.NoMemory

-- the data of a record are not the fields of their type up to their end, or memory ran out
abbrev pub HasNoData : RecordValue → Failure → Type 0
HasNoData r failure = (error : RDataError) × FailsToCopy (record_kinds r) (data_start r) error × (failure ≡ failure_of_rdata error)

-- with every name in its wire form they are longer than two octets can say (RFC 1035, section 3.2.1)
abbrev pub HasTooLongData : RecordValue → Failure → Type 0
HasTooLongData r failure =
    (octets : List ℕ) × Copies (record_kinds r) (data_start r) octets × (max_message < length octets) × (failure ≡ why.DataTooLong)

-- The data of the record at an offset of a message are put, with every name in its wire form: at most 65,535 octets.
abbrev pub PutsWholeData : List ℕ → ℕ → List ℕ → List ℕ → Result ℕ Failure → Type 0
PutsWholeData message start old new result =
    ((r : RecordValue) × (end : ℕ) × (octets : List ℕ) × RecordAt message start r end × Copies (record_kinds r) (data_start r) octets
    × (length octets ≤ max_message) × Puts octets (length octets) old new result)
    ⊎ Refuses (λ failure. HasNoRecord message start failure
    ⊎ ((r : RecordValue) × (end : ℕ) × RecordAt message start r end × (HasNoData r failure ⊎ HasTooLongData r failure))) old new result
