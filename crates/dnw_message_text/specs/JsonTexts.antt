-- What a message as JSON (RFC 8427) has of the data of a record.
use Rattle.std.specs.Prelude.{◌≡◌, ◌⊎◌, ℕ, List}
use Rattle.dnw_record.specs.DataCopies.{Copies, FailsToCopy, data_start, record_kinds}
use Rattle.dnw_record.specs.Records.{RecordValue, data_octets}
use Rattle.dnw_record.specs.declared.rdata.RDataError.{RDataError}

-- the octets of data: with whole names, or as they stand if they are no data of their type
abbrev pub AreOwnOctets : RecordValue → List ℕ → Type 0
AreOwnOctets r own =
    Copies (record_kinds r) (data_start r) own
    ⊎ ((error : RDataError) × FailsToCopy (record_kinds r) (data_start r) error × (own ≡ data_octets r))
