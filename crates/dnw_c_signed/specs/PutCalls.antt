-- Octets that the functions for C put into a buffer, and why they put none.
use Rattle.std.specs.Prelude.{◌⊎◌, ℕ, List, length, Result}
use Rattle.dnw_c_base.specs.Results.{Puts, Refuses}
use Rattle.dnw_c_base.specs.declared.failure.Failure.{Failure}

-- Octets of which this is so are put, and the value is their number; or it fails for such a reason, and nothing is changed.
abbrev pub PutsSuch : (List ℕ → Type 0) → (Failure → Type 0) → List ℕ → List ℕ → Result ℕ Failure → Type 0
PutsSuch Are Fails old new result = ((own : List ℕ) × Are own × Puts own (length own) old new result) ⊎ Refuses Fails old new result
