-- What the records of a set begin with.
use Rattle.std.specs.Prelude.{ℕ, List}
use Rattle.dnw_signed.specs.RecordSets.{head_octets}
use Rattle.dnw_signed.specs.declared.set.SetHead.{SetHead}

-- with this owner
abbrev pub head_with : List (List ℕ) → SetHead → List ℕ
head_with owner head = head_octets owner head.code head.class head.labels head.original_ttl
