-- The compression pointers that names in the data of records follow, of a number that may be followed in all.
use Rattle.std.specs.Prelude.{◌≡◌, ◌<◌, ℕ, ◌+◌, ◌⊎◌, Option, Some, None, List, [], ◌∷◌}
use Rattle.dnw_base.specs.Decoder.{Decoder}
use Rattle.dnw_base.specs.declared.error.DecodeError.{DecodeError}
use Rattle.dnw_name_read.specs.Reading.{TakesName}
use Rattle.dnw_data.specs.declared.kind.Kind.{Kind}
use Rattle.dnw_data.specs.declared.kind.Kind.TheVariants.{Name}
use Rattle.dnw_data.specs.Fields.{FailsField, TakesField}
use Rattle.dnw_data.specs.Values.{FieldValue}
use Rattle.dnw_record.specs.DataCopies.{data_start, record_kinds}
use Rattle.dnw_record.specs.Records.{RecordValue}

-- A field of this kind is read, and follows k pointers: none if it is no name.
abbrev pub FieldFollows : Kind → Decoder → Decoder → ℕ → Type 0
FieldFollows (Name form) before after k = (labels : List (List ℕ)) × TakesName before after labels k
FieldFollows kind before after k = (value : FieldValue) × TakesField kind before value after × (k ≡ 0)

-- no field of this kind is there
abbrev pub IsNoField : Kind → Decoder → Type 0
IsNoField kind d = (error : DecodeError) × FailsField kind d error

-- Of so many pointers that may be followed, those of fields of these kinds are taken, up to the first that is none of its kind: so
-- many are left, or there are too few.
pub data TakesPointers : List Kind → Decoder → ℕ → Option ℕ → Type 0 where
  no_fields : (d : Decoder) (left : ℕ) → TakesPointers [] d left (Some left)
  no_field : (kind : Kind) (kinds : List Kind) (d : Decoder) (left : ℕ) → IsNoField kind d → TakesPointers (kind ∷ kinds) d left (Some left)
  next_field : (kind : Kind) (kinds : List Kind) (d after : Decoder) (k most left : ℕ) (end : Option ℕ)
      → FieldFollows kind d after k → left + k ≡ most → TakesPointers kinds after left end → TakesPointers (kind ∷ kinds) d most end
  too_few : (kind : Kind) (kinds : List Kind) (d after : Decoder) (k most : ℕ)
      → FieldFollows kind d after k → most < k → TakesPointers (kind ∷ kinds) d most None

-- the same of the data of a record of a message
abbrev pub TakesDataPointers : RecordValue → ℕ → Option ℕ → Type 0
TakesDataPointers r most end = TakesPointers (record_kinds r) (data_start r) most end

-- the same of the data of records of a message, one after another
abbrev pub TakesAllPointers : List RecordValue → ℕ → Option ℕ → Type 0
TakesAllPointers [] most end = end ≡ Some most
TakesAllPointers (r ∷ rs) most end =
    (TakesDataPointers r most None × (end ≡ None)) ⊎ ((left : ℕ) × TakesDataPointers r most (Some left) × TakesAllPointers rs left end)
