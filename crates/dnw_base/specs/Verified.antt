-- What a contract sees of a verified value: the value, and the verdict of the test.
use Rattle.std.specs.Prelude.{Bool}
use Rattle.std.specs.Borrow.{Bor}
use Rattle.dnw_base.specs.declared.restrict.Verified.{Verified}

abbrev pub verified_value : {T : Type 0} → Verified T → Bor T
verified_value v = v.value

abbrev pub verified_verdict : {T : Type 0} → Verified T → Bool
verified_verdict v = v.valid
