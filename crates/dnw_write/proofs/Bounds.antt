-- No write leaves a buffer longer than the greater of its old length and the maximum.
use Rattle.std.proofs.Common.{◌≡◌, ℕ, zero, suc, ◌+◌, ◌-◌, ◌≤◌, max, List, [], ◌∷◌, ◌++◌, length, take, drop, replicate, Ok, refl, sym, ap, ◌∙◌, subst, arith}
use Rattle.std.proofs.Math.Nat.{le-max_left, le-max_right, max-le}
use Rattle.std.proofs.lemmas.List.{length-append, length-drop, length-take, length-take-le, length-replicate}
use Rattle.dnw_write.specs.Encoder.{Encoder, reserved}
use Rattle.dnw_write.specs.Emitting.{Outcome, Emits, Frame}
use Rattle.dnw_write.specs.EncoderLaws.{StaysBounded, WritesStayBounded, PlacesStayBounded, FillsStayBounded, FillsTakeNoMemory, ItemsStayBounded}
use Rattle.dnw_write.proofs.Places.{length_over}

drop_nil : (n : ℕ) → drop {A = ℕ} n [] ≡ []
drop_nil zero = refl
drop_nil (suc n) = refl

-- the length once bytes are written
pub length_written : (o : ℕ) (b d : List ℕ) → o ≤ length b → length (take o b ++ (d ++ drop (o + length d) b)) ≡ o + length d + (length b - (o + length d))
length_written o b d le =
    omega (arith, length-append (take o b) (d ++ drop (o + length d) b), length-append d (drop (o + length d) b), length-drop (o + length d) b, length-take-le o b le)

pub writes_stay_bounded : WritesStayBounded
writes_stay_bounded v w bytes within h =
    let size : length w.bytes ≡ v.offset + length bytes + (length v.bytes - (v.offset + length bytes)) =
    ap (λ (e : Encoder). length e.bytes) h.1 ∙ length_written v.offset v.bytes bytes within in
    let offset : w.offset ≡ v.offset + length bytes = ap (λ (e : Encoder). e.offset) h.1 in
    (omega (arith, size, h.0, le-max_left (length v.bytes) v.max_size, le-max_right (length v.bytes) v.max_size), omega (arith, size, offset))

pub places_stay_bounded : PlacesStayBounded
places_stay_bounded v n within room =
    let size : length (reserved v n).bytes ≡ v.offset + n =
    omega (arith, length-append (take (v.offset + n) v.bytes) (replicate (v.offset + n - length v.bytes) 0), length-take (v.offset + n) v.bytes, length-replicate {A = ℕ} (v.offset + n - length v.bytes) 0) in
    (omega (arith, size, room, le-max_right (length v.bytes) v.max_size), sym size)

pub fills_stay_bounded : FillsStayBounded
fills_stay_bounded v place bytes within holds = length_over place v.bytes bytes (omega arith)

pub fills_take_no_memory : FillsTakeNoMemory
fills_take_no_memory v w place bytes within holds h = omega (arith, h.1)

pub items_stay_bounded : {X : Type 0} (emits : Emits X)
    → ((x : X) (v : Encoder) (outcome : Outcome) (w : Encoder) → v.offset ≡ length v.bytes → emits x v outcome w → Frame v outcome w)
    → ItemsStayBounded emits
items_stay_bounded emits keeps each v w [] e h =
    let P : Encoder → Type 0 = λ x. StaysBounded v x in
    subst P (sym h) (le-max_left (length v.bytes) v.max_size)
items_stay_bounded emits keeps each v w (x ∷ xs) e h =
    let first = keeps x v (Ok tt) h.0 e h.1 in
    let one = each x v h.0 e h.1 in
    let rest = items_stay_bounded emits keeps each h.0 w xs first.ends h.2 in
    let le : max (length h.0.bytes) h.0.max_size ≤ max (length v.bytes) v.max_size =
    max-le one (omega (arith, first.max_size, le-max_right (length v.bytes) v.max_size)) in
    omega (arith, rest, le)
