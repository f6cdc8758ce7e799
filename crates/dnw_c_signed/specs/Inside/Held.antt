-- Records that are held: one alone, or a list.
use Rattle.std.specs.Prelude.{List, [], ◌∷◌}
use Rattle.dnw_record.specs.Records.{RecordValue}
use Rattle.dnw_c_signed.specs.declared.records.Records.{Records}
use Rattle.dnw_c_signed.specs.declared.records.Records.TheVariants.{More, One}

-- the records, in turn
abbrev pub records_held : Records → List RecordValue
records_held (One one) = one ∷ []
records_held (More list) = list.items
