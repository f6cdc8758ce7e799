-- Values written at places.
use Rattle.std.proofs.Common.{◌≡◌, ℕ, ◌+◌, ◌≤◌, List, ◌++◌, length, take, drop, Ok, Err, ap, ◌∙◌, arith}
use Rattle.std.specs.Result.{OnOk}
use Rattle.std.proofs.lemmas.List.{length-append, length-drop, length-take-le}
use Rattle.dnw_write.specs.Encoder.{Encoder, moved_to}
use Rattle.dnw_write.specs.Emitting.{Emits, Outcome, FillsPlace, WritesLen, FailsUnchanged}

-- bytes written over others are as many as before
pub length_over : (p : ℕ) (b d : List ℕ) → p + length d ≤ length b → length (take p b ++ (d ++ drop (p + length d) b)) ≡ length b
length_over p b d le =
    let front : p ≤ length b = omega arith in
    omega (arith, length-append (take p b) (d ++ drop (p + length d) b), length-append d (drop (p + length d) b), length-drop (p + length d) b, length-take-le p b front)

-- the offset stays within the buffer
pub still_within : {X : Type 0} (emits : Emits X) (n : ℕ) → WritesLen emits n → FailsUnchanged emits
    → (x : X) (v u : Encoder) (outcome : Outcome) (p : ℕ) → p + n ≤ v.offset → v.offset ≤ length v.bytes
    → emits x (moved_to v p) outcome u → v.offset ≤ length u.bytes
still_within emits n accepts refuses x v u (Ok tt) p holds within e =
    let wrote = accepts x (moved_to v p) u e in
    let size : length u.bytes ≡ length v.bytes =
    ap (λ (w : Encoder). length w.bytes) wrote.2 ∙ length_over p v.bytes wrote.0 (omega (arith, wrote.1)) in
    omega (arith, size)
still_within emits n accepts refuses x v u (Err error) p holds within e =
    let same : length u.bytes ≡ length v.bytes = ap (λ (w : Encoder). length w.bytes) (refuses x (moved_to v p) u error e) in
    omega (arith, same)

-- what is written at the place fills it
pub fills : {X : Type 0} (emits : Emits X) (n : ℕ) → WritesLen emits n
    → (x : X) (v u : Encoder) (outcome : Outcome) (p : ℕ) → emits x (moved_to v p) outcome u
    → OnOk outcome (FillsPlace p n v (moved_to u v.offset))
fills emits n accepts x v u (Ok tt) p e =
    let wrote = accepts x (moved_to v p) u e in
    (wrote.0, wrote.1, ap (λ (w : Encoder). moved_to w v.offset) wrote.2)
fills emits n accepts x v u (Err error) p e = tt
