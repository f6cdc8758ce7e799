-- Lists of items that are written in turn.
use Rattle.std.proofs.Common.{◌≡◌, ℕ, ◌+◌, ◌<◌, ◌^◌, List, [], ◌∷◌, ◌++◌, length, Some, Option, Ok, refl, sym, subst, arith}
use Rattle.std.specs.Iterator.{Yields, Count, IsFinite, size, MakesProgress}
use Rattle.std.proofs.lemmas.List.{length-append}
use Rattle.dnw_write.specs.Encoder.{Encoder}
use Rattle.dnw_write.specs.Emitting.{Emits, InTurn}

-- The loop has come from one encoder and iterator to another: so many items were taken and accepted in turn.
pub record HasEmitted {X I : Type 0} (emits : Emits X) (steps : I → Option X → I → Type 0) (can : I → Type 0) (left : I → Count)
    (v : Encoder) (items : I) (count : ℕ) (w : Encoder) (rest : I) : Type 0 where
  pub taken : List X
  pub yields : Yields steps items taken rest
  pub in_turn : InTurn emits v taken w
  pub counted : count ≡ length taken
  pub at_end : w.offset ≡ length w.bytes
  pub can_go_on : can rest
  pub ends : IsFinite (left rest)
  pub fits : count + size (left rest) < 2 ^ 64

yields_push : {X I : Type 0} (steps : I → Option X → I → Type 0) (s : I) (xs : List X) (t : I) (x : X) (u : I)
    → Yields steps s xs t → steps t (Some x) u → Yields steps s (xs ++ x ∷ []) u
yields_push steps s [] t x u ys step = (u, subst (λ i. steps i (Some x) u) (sym ys) step, refl)
yields_push steps s (y ∷ xs) t x u ys step = (ys.0, ys.1, yields_push steps ys.0 xs t x u ys.2 step)

in_turn_push : {X : Type 0} (emits : Emits X) (v : Encoder) (xs : List X) (m : Encoder) (x : X) (w : Encoder)
    → InTurn emits v xs m → emits x m (Ok tt) w → InTurn emits v (xs ++ x ∷ []) w
in_turn_push emits v [] m x w all one = (w, subst (λ e. emits x e (Ok tt) w) all one, refl)
in_turn_push emits v (y ∷ xs) m x w all one = (all.0, all.1, in_turn_push emits all.0 xs m x w all.2 one)

-- one more item
pub emitted_more : {X I : Type 0} (emits : Emits X) (steps : I → Option X → I → Type 0) (can : I → Type 0) (left : I → Count)
    (v : Encoder) (items : I) (count : ℕ) (m : Encoder) (at : I) (x : X) (w : Encoder) (rest : I)
    → HasEmitted emits steps can left v items count m at → steps at (Some x) rest → MakesProgress can left at (Some x) rest
    → emits x m (Ok tt) w → w.offset ≡ length w.bytes → HasEmitted emits steps can left v items (count + 1) w rest
emitted_more emits steps can left v items count m at x w rest has step goes one at_end =
    let on = goes.on has.ends in
    record {
      taken = has.taken ++ x ∷ [];
      yields = yields_push steps items has.taken at x rest has.yields step;
      in_turn = in_turn_push emits v has.taken m x w has.in_turn one;
      counted = omega (arith, has.counted, length-append has.taken (x ∷ []));
      at_end = at_end;
      can_go_on = on.0;
      ends = on.1;
      fits = omega (arith, has.fits, on.2);
    }
