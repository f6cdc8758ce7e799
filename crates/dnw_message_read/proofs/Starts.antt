-- What is read at the start of a message.
use Rattle.std.proofs.Common.{◌≡◌, Result, Ok, Err, IfOk, subst}
use Rattle.dnw_base.specs.Decoder.{Decoder}
use Rattle.dnw_base.specs.declared.error.DecodeError.{DecodeError}

pub from_start : {A : Type 0} (Stands : Decoder → A → Decoder → Type 0) (result : Result A DecodeError) (d d' after : Decoder) → d ≡ d'
    → IfOk result (λ x. Stands d x after) → IfOk result (λ x. (after : Decoder) × Stands d' x after)
from_start Stands (Ok x) d d' after same h = (after, subst (λ d. Stands d x after) same h)
from_start Stands (Err e) d d' after same h = tt
