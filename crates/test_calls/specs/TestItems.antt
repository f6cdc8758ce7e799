-- An item of a test: a byte, and character data after it.
use Rattle.std.specs.Prelude.{◌≡◌, ◌⊎◌, ℕ, List, [], ◌∷◌, length, Ok, Err}
use Rattle.std.proofs.Common.{inl, inr}
use Rattle.dns_names_wire.specs.Encoder.{Encoder, Writes, WritesText}
use Rattle.dns_names_wire.specs.Emitting.{Outcome, Frame}
use Rattle.dns_names_wire.specs.EmittingLaws.{frame, frames-follow, frame-text}

-- the byte, and then the text; or the first of both that fails
abbrev pub WritesBoth : ℕ → List ℕ → Encoder → Outcome → Encoder → Type 0
WritesBoth byte text v (Ok done) w = (m : Encoder) × Writes v (byte ∷ []) (Ok tt) m × WritesText m text (Ok tt) w
WritesBoth byte text v (Err error) w =
    Writes v (byte ∷ []) (Err error) w ⊎ ((m : Encoder) × Writes v (byte ∷ []) (Ok tt) m × WritesText m text (Err error) w)

pub keeps_frame : (byte : ℕ) (text : List ℕ) (v : Encoder) (outcome : Outcome) (w : Encoder) → v.offset ≡ length v.bytes
    → WritesBoth byte text v outcome w → Frame v outcome w
keeps_frame byte text v (Ok tt) w e h =
    let first = frame v (byte ∷ []) (Ok tt) h.0 e h.1 in
    frames-follow v h.0 w (Ok tt) e first (frame-text h.0 text (Ok tt) w first.ends h.2)
keeps_frame byte text v (Err error) w e h =
    elim h [
      | inl r ↦ frame v (byte ∷ []) (Err error) w e r
      | inr r ↦
          let first = frame v (byte ∷ []) (Ok tt) r.0 e r.1 in
          frames-follow v r.0 w (Err error) e first (frame-text r.0 text (Err error) w first.ends r.2)
    ]

-- after an accepted byte the text decides
pub then : (byte : ℕ) (text : List ℕ) (v m : Encoder) (outcome : Outcome) (w : Encoder)
    → Writes v (byte ∷ []) (Ok tt) m → WritesText m text outcome w → WritesBoth byte text v outcome w
then byte text v m (Ok tt) w first rest = (m, first, rest)
then byte text v m (Err error) w first rest = inr (m, first, rest)
