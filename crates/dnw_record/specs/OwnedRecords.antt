-- Records that are copied from a message.
use Rattle.std.specs.Prelude.{◌≡◌, ℕ, true, List}
use Rattle.dnw_base.specs.Names.{NameValue}
use Rattle.dnw_record.specs.Records.{RecordValue}
use Rattle.dnw_record.specs.declared.record.Record.{Record}
use Rattle.dnw_record.specs.DataCopies.{Copies, data_start, record_kinds}

-- a name of a message, which is fully qualified
abbrev pub name_of : List (List ℕ) → NameValue
name_of labels = record { is_fqdn = true; labels = labels }

-- The record is a copy of one of a message: with its owner, class and time to live, and its data, in which every name has its
-- wire form.
abbrev pub IsCopyOf : RecordValue → Record → Type 0
IsCopyOf x r =
    (r.name ≡ name_of x.owner) × (r.data.class ≡ x.class) × (r.ttl ≡ x.ttl) × (r.data.record_type ≡ x.record_type)
    × Copies (record_kinds x) (data_start x) r.data.octets
