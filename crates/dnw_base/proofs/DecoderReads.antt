-- A read succeeds if enough octets are left.
use Rattle.std.proofs.Common.{◌≡◌, ℕ, Result, Ok, Err, IsOk, refl}
use Rattle.dnw_base.specs.Decoder.{Decoder, HasLeft, Takes, advanced}
use Rattle.dnw_base.specs.declared.error.DecodeError.{DecodeError}
use Rattle.dnw_base.specs.declared.error.DecodeError.TheVariants.{InsufficientBytes}

pub Takes_enough : {A : Type 0} (before : Decoder) (n : ℕ) (Gives : A → Type 0) (answer : Result A DecodeError) (after : Decoder)
    → HasLeft before n → Takes before n Gives answer after → IsOk answer × (after ≡ advanced before n)
Takes_enough before n Gives (Ok x) after enough takes = (refl, takes.2)
Takes_enough before n Gives (Err InsufficientBytes) after enough takes = absurd (takes.0 enough)
Takes_enough before n Gives (Err error) after enough takes = absurd takes
