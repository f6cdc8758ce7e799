-- What a call returns that looks a name up in a table of codes.
use Rattle.std.specs.Prelude.{◌≡◌, ℕ, ◌≤◌, List, length, Option, Some, None, Result, Ok, Err, string_bytes}
use Rattle.dnw_base.specs.declared.error.DecodeError.{DecodeError}
use Rattle.dnw_base.specs.declared.error.DecodeError.TheVariants.{UnknownDnsClassStr, UnknownRecordTypeStr, Memory}

-- It returns what the table has; if the table has nothing, it fails with an error that reports so.
abbrev pub Looks : {A : Type 0} → Option A → (DecodeError → Type 0) → Result A DecodeError → Type 0
Looks (Some x) Reports (Ok y) = y ≡ x
Looks None Reports (Err e) = Reports e
Looks found Reports result = ⊥

-- no type has this name, or memory for a copy of it ran out
abbrev pub ReportsType : List ℕ → DecodeError → Type 0
ReportsType name (UnknownRecordTypeStr own) = string_bytes own ≡ name
ReportsType name Memory = 1 ≤ length name
ReportsType name error = ⊥

-- no class has this name, or memory for a copy of it ran out
abbrev pub ReportsClass : List ℕ → DecodeError → Type 0
ReportsClass name (UnknownDnsClassStr own) = string_bytes own ≡ name
ReportsClass name Memory = 1 ≤ length name
ReportsClass name error = ⊥
