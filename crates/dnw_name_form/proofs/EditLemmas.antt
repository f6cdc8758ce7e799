-- When a label fits, and what a failure within a composition is.
use Rattle.std.proofs.Common.{◌≡◌, ℕ, ◌+◌, ◌<◌, ◌≤◌, List, [], ◌∷◌, ◌++◌, length, Result, Ok, Err, refl, arith}
use Rattle.std.proofs.lemmas.Bool.{le-ltb, lt-ltb}
use Rattle.dnw_base.specs.declared.error.ProtoError.{ProtoError}
use Rattle.dnw_base.specs.declared.error.ProtoError.TheVariants.{Memory}
use Rattle.dnw_base.specs.Fault.{Fault, NameTooLong, FailsOr, NeedsErrorText, ◌>>=◌}
use Rattle.dnw_base.specs.Names.{encoded_size}
use Rattle.dnw_name_form.specs.Edits.{with_label}
use Rattle.dnw_base.proofs.Wires.{encoded_size_push}

pub with_label_long : (ls : List (List ℕ)) (l : List ℕ) (n : ℕ) → n ≡ encoded_size ls + 1 + length l → 255 < n → with_label ls l ≡ Err (NameTooLong n)
with_label_long ls l n e lt =
    let size : encoded_size (ls ++ l ∷ []) ≡ n = omega (arith, encoded_size_push ls l, e) in
    rw (size, lt-ltb 255 n lt) refl

pub with_label_fits : (ls : List (List ℕ)) (l : List ℕ) → encoded_size ls + 1 + length l ≤ 255 → with_label ls l ≡ Ok (ls ++ l ∷ [])
with_label_fits ls l le =
    rw (le-ltb 255 (encoded_size (ls ++ l ∷ [])) (omega (arith, encoded_size_push ls l, le))) refl

-- what the first part fails with, the whole fails with
pub FailsOr_bind : {A B : Type 0} (r : Result A Fault) (f : A → Result B Fault) (e : ProtoError)
    → FailsOr r (NeedsErrorText r) e → FailsOr (r >>= f) (NeedsErrorText (r >>= f)) e
FailsOr_bind (Ok x) f Memory h = absurd h
FailsOr_bind (Ok x) f e h = absurd h
FailsOr_bind (Err fault) f e h = h

-- what fails without memory, fails whatever memory there is
pub FailsOr_any : {A : Type 0} (r : Result A Fault) (e : ProtoError) → FailsOr r ⊥ e → FailsOr r (NeedsErrorText r) e
FailsOr_any r Memory h = absurd h
FailsOr_any r e h = h
