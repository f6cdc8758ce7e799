-- What a `?` returns for a failure, what 0 stands for, and buffers that have room.
use Rattle.std.proofs.Common.{◌≡◌, ◌≤◌, ℕ, List, length, arith, Result, Ok, Err, refl, sym, subst}
use Rattle.std.specs.Prelude.{IfErr, IsErrAnd, MatchResult}
use Rattle.dnw_c_base.specs.Results.{IsStored, Puts, PutsWithin, Refuses}
use Rattle.dnw_c_base.specs.declared.failure.Failure.{Failure}

module _ {T : Type 0} (Fails : Failure → Type 0) where
  pub exits : (r : Result T Failure) (failure : Failure) → IsErrAnd r (λ e. e ≡ failure) → Fails failure → IfErr r Fails
  exits (Ok value) failure is fails = absurd is
  exits (Err e) failure is fails = subst Fails (sym is) fails

  -- and nothing is changed
  pub refused : {S : Type 0} (old : S) (r : Result T Failure) (failure : Failure)
      → IsErrAnd r (λ e. e ≡ failure) → Fails failure → Refuses Fails old old r
  refused old (Ok value) failure is fails = absurd is
  refused old (Err e) failure is fails = (subst Fails (sym is) fails, refl)

-- a call that returns 0 did what it does
pub done_at_zero : {T : Type 0} (Does : T → Type 0) (Fails : Failure → Type 0) (r : Result T Failure) (old new : T) (code : ℕ)
    → IsStored r old new code → MatchResult r Does Fails → code ≡ 0 → Does new
done_at_zero Does Fails (Ok value) old new code stored does zero = subst Does (sym stored.value.1) does
done_at_zero Does Fails (Err failure) old new code stored fails zero = let no = stored.zero zero in absurd cc

-- so many items fit into a buffer of that size
pub within : {T : Type 0} (most : ℕ) (items : List ℕ) (value : T) (old new : List ℕ) (r : Result T Failure)
    → Puts items value old new r → length items ≤ most → PutsWithin most items value old new r
within most items value old new (Ok found) puts le = (puts, tt)
within most items value old new (Err failure) puts le = let short = puts.1 in (puts, omega (arith, short, le))
