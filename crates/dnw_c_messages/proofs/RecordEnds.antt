-- Where the octets of a name end.
use Rattle.std.proofs.Common.{◌≡◌, ℕ, ◌+◌, ◌-◌, ◌≤◌, List, subst, arith}
use Rattle.dnw_name_read.specs.Reading.{NameAt}
use Rattle.dnw_name_read.proofs.Counts.{Reads_own}

-- after they begin
pub ends_after : {b : List ℕ} {p e k : ℕ} {ls : List (List ℕ)} → NameAt b p ls e k → p ≤ e
ends_after at =
    let (further, inside) = Reads_own at.reads in
    omega (arith, further)

-- and where so many octets end
pub ends_there : {b : List ℕ} {p e k n : ℕ} {ls : List (List ℕ)} → NameAt b p ls e k → e - p ≡ n → NameAt b p ls (p + n) k
ends_there {b} {p} {e} {k} {n} {ls} at few =
    let le = ends_after at in
    let same : e ≡ p + n = omega (arith, le, few) in
    subst (λ end. NameAt b p ls end k) same at
