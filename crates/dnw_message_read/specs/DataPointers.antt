-- The records of a message, whose data have names that follow compression pointers.
use Rattle.std.specs.Prelude.{List, ◌++◌}
use Rattle.dnw_record.specs.Records.{RecordValue}
use Rattle.dnw_message_read.specs.Messages.{MessageValue}

-- the records, section by section
abbrev pub records_of : MessageValue → List RecordValue
records_of m = m.answers ++ (m.authorities ++ m.additionals)
