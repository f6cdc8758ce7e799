-- The fields of the data of a record in a message.
use Rattle.std.specs.Prelude.{ℕ, ◌+◌, List, drop, slice_range}
use Rattle.dnw_base.specs.DnsClasses.{class_code}
use Rattle.dnw_base.specs.RecordTypes.{type_code}
use Rattle.dnw_data.specs.Table.{fields_of}
use Rattle.dnw_data.specs.Walks.{FieldsLeft, fields_at}
use Rattle.dnw_record.specs.Records.{RecordValue}

-- the message up to where the data end
abbrev pub up_to_end : RecordValue → List ℕ
up_to_end r = slice_range r.message 0 (r.start + r.len)

-- the fields of its class and type, in the message up to where its data end
abbrev pub record_fields : RecordValue → FieldsLeft
record_fields r = fields_at (up_to_end r) r.start (fields_of (class_code r.class) (type_code r.record_type) (drop r.start (up_to_end r)))
