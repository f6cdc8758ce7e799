-- Writes keep a reply within its bound, and its header.
use Rattle.std.proofs.Common.{◌≡◌, ◌≤◌, ◌∙◌, ℕ, Ok, Err, length, max, ap, arith}
use Rattle.std.specs.Prelude.{OnOk}
use Rattle.std.proofs.lemmas.List.{length-take}
use Rattle.dns_names_wire.specs.Words.{Encoder, NameValue, EmitsName, NamesStayBounded, Outcome, frame_name}
use Rattle.uses.specs.Bounded.{HasHeader, Keeps, max_reply}

bound : (n m k : ℕ) → n ≤ max m k → m ≤ max_reply → k ≡ max_reply → n ≤ max_reply
bound n m k h a e = omega (arith, h, a, e)

pub name_keeps : (name : NameValue) (v : Encoder) (outcome : Outcome) (w : Encoder) → HasHeader v → EmitsName name v outcome w → Keeps v w
name_keeps name v outcome w h emits =
    let kept = frame_name name v outcome w h.0 emits in
    (omega (arith, h.0, ap length kept.bytes, length-take v.offset w.bytes), kept.max_size)

pub name_bounded : NamesStayBounded → (name : NameValue) (v : Encoder) (outcome : Outcome) (w : Encoder)
    → HasHeader v → EmitsName name v outcome w → OnOk outcome (HasHeader w)
name_bounded law name v (Ok done) w h emits =
    let kept = frame_name name v (Ok done) w h.0 emits in
    let more = name_keeps name v (Ok done) w h emits in
    let le : v.offset ≤ length v.bytes = omega (arith, h.0) in
    let within = law name v w le emits in
    (kept.ends, omega (arith, h.1, more.0), bound (length w.bytes) (length v.bytes) v.max_size within.0 h.2 h.3, kept.max_size ∙ h.3)
name_bounded law name v (Err error) w h emits = tt
