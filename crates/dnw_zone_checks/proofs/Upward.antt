-- Names above others, and records by their numbers.
use Rattle.std.proofs.Common.{◌≡◌, ℕ, ◌+◌, ◌<◌, ◌≤◌, Bool, List, [], ◌∷◌, length, Some, None, refl, arith}
use Rattle.std.proofs.lemmas.Bool.{le-leb, lt-leb}
use Rattle.dnw_record.specs.Records.{RecordValue}
use Rattle.dnw_zone_checks.specs.Checks.{first_at, first_upward, upward}

pub upward_found : (zs : List RecordValue) (least : ℕ) (name : List (List ℕ)) (p : ℕ → Bool) (k : ℕ) → least ≤ length name → first_at zs name p ≡ Some k
    → first_upward zs (upward least name) p ≡ Some k
upward_found zs least [] p k h is = rw (le-leb least 0 h, is) refl
upward_found zs least (label ∷ rest) p k h is = rw (le-leb least (length rest + 1) (omega arith), is) refl

pub upward_none : (zs : List RecordValue) (least : ℕ) (name : List (List ℕ)) (p : ℕ → Bool) → length name < least → first_upward zs (upward least name) p ≡ None
upward_none zs least [] p h = rw (lt-leb least 0 h) refl
upward_none zs least (label ∷ rest) p h = rw (lt-leb least (length rest + 1) (omega arith)) refl
