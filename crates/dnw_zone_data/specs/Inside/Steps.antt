-- One field after another.
use Rattle.std.specs.Prelude.{◌⊎◌, Option, Some, None}
use Rattle.dnw_base.specs.declared.error.DecodeError.{DecodeError}
use Rattle.dnw_data.specs.Values.{FieldValue}
use Rattle.dnw_data.specs.Walks.{FieldsLeft, TakesNext, FailsNext, IsEnded}

-- The next field is read, or there is none.
abbrev pub ReadsNext : FieldsLeft → Option FieldValue → FieldsLeft → Type 0
ReadsNext before (Some value) after = TakesNext before.kinds before.reader value after.reader after.kinds
ReadsNext before None after =
    IsEnded before ⊎ ((error : DecodeError) × FailsNext before.kinds before.reader before.start error)
