-- The first set of records, and what is after it.
use Rattle.std.specs.Prelude.{◌≡◌, ℕ, Option, Some, None, List, [], ◌∷◌, ◌++◌}
use Rattle.dnw_record.specs.Records.{RecordValue}
use Rattle.dnw_message_writer.specs.Copying.{AreASet, EndsBefore, copied_form}
use Rattle.dnw_message_writer.specs.Sets.{AddsSet}
use Rattle.dnw_message_writer.specs.declared.section.Section.{Section}
use Rattle.dnw_message_writer.specs.declared.state.WriterState.{WriterState}

-- this record, and these after it; or none
abbrev pub first_of : Option RecordValue → List RecordValue → List RecordValue
first_of None xs = []
first_of (Some x) xs = x ∷ xs

-- Of these records a set is added, and the others are left.
abbrev pub AddsFirstSet : Section → List RecordValue → List RecordValue → WriterState → List ℕ → WriterState → List ℕ → Type 0
AddsFirstSet s xs others w m v n =
    (set : List RecordValue) × (xs ≡ set ++ others) × AreASet set × EndsBefore set others × AddsSet s copied_form set w m v n
