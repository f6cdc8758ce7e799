-- Octets that are put into a buffer piece by piece.
use Rattle.std.proofs.Common.{◌≡◌, ℕ, ◌+◌, List, ◌++◌, length, take, drop, sym, ap, ◌∙◌, arith, length-append}
use Rattle.std.proofs.lemmas.List.{take_at}
use Rattle.std.proofs.lemmas.Slice.{drop-append-drop}
use Rattle.dnw_name_read.specs.Buffers.{put}

-- after a piece at the front, another
pub put_more : (old mid new front piece : List ℕ) (start : ℕ) → start ≡ length front → mid ≡ put old front
    → new ≡ take start mid ++ piece ++ drop (start + length piece) mid → new ≡ put old (front ++ piece)
put_more old mid new front piece start at so is =
    let whole : mid ≡ front ++ drop start old = so ∙ ap (λ (n : ℕ). front ++ drop n old) (sym at) in
    let first : take start mid ≡ front = ap (take start) whole ∙ take_at front (drop start old) start (sym at) in
    let rest : drop (start + length piece) mid ≡ drop (start + length piece) old =
    ap (drop (start + length piece)) whole ∙ drop-append-drop start old front (start + length piece) (omega arith) (sym at) in
    let size : start + length piece ≡ length (front ++ piece) = omega (arith, at, length-append front piece) in
    is
    ∙ ap (λ (xs : List ℕ). xs ++ piece ++ drop (start + length piece) mid) first
    ∙ ap (λ (xs : List ℕ). front ++ piece ++ xs) rest
    ∙ ap (λ (n : ℕ). front ++ piece ++ drop n old) size
