-- Octets that are put at an offset, and what is there then.
use Rattle.std.proofs.Common.{◌≡◌, ◌≤◌, ℕ, ◌+◌, List, [], ◌++◌, length, take, drop, subst, sym, ap, ◌∙◌, append_assoc, arith, length-append, length-drop}
use Rattle.std.proofs.lemmas.List.{drop-drop, drop_at, length-take-le, nil_from_length, take-append-drop, take_at}
use borrow.Rule.Slice.PartMut.{put_mid}
use Rattle.dnw_message_writer.specs.CompressedNames.{put_at}

-- two pieces, the second after the first, are put as one
pub put_at_put_at : (m : List ℕ) (p q : ℕ) (a b : List ℕ) → q ≡ p + length a → p ≤ length m
    → put_at (put_at m p a) q b ≡ put_at m p (a ++ b)
put_at_put_at m p q a b next within =
    let front : List ℕ = take p m ++ a in
    let rest : List ℕ = drop (p + length a) m in
    let len : length front ≡ q = omega (arith, next, length-append (take p m) a, length-take-le p m within) in
    let split : put_at m p a ≡ front ++ rest = sym (append_assoc (take p m) a rest) in
    let head : take q (put_at m p a) ≡ front = ap (take q) split ∙ take_at front rest q len in
    let tail : drop (q + length b) (put_at m p a) ≡ drop (p + length (a ++ b)) m =
    sym (drop-drop (length b) q (put_at m p a)) ∙ ap (λ l. drop (length b) (drop q l)) split ∙ ap (drop (length b)) (drop_at front rest q len)
    ∙ drop-drop (length b) (p + length a) m ∙ ap (λ n. drop n m) (omega (arith, length-append a b)) in
    rw (head, tail) (append_assoc (take p m) a _ ∙ ap (λ l. take p m ++ l) (sym (append_assoc a b _)))

-- the size of the buffer is unchanged
pub length_put_at : (m : List ℕ) (p : ℕ) (a : List ℕ) → p + length a ≤ length m → length (put_at m p a) ≡ length m
length_put_at m p a fits =
    omega (arith, length-append (take p m) (a ++ drop (p + length a) m), length-append a (drop (p + length a) m), length-take-le p m (omega (arith, fits)), length-drop (p + length a) m, fits)

-- octets that are written over a part of the buffer are put there
pub is_mid : (m : List ℕ) (p : ℕ) (a : List ℕ) → put_at m p a ≡ put_mid p (length a) m a
is_mid m p a = ap (λ r. take p m ++ (a ++ r)) (sym (drop-drop (length a) p m))

-- no octets change nothing
pub put_nothing : (m : List ℕ) (p : ℕ) (a : List ℕ) → length a ≡ 0 → m ≡ put_at m p a
put_nothing m p a none =
    let here : p + 0 ≡ p = omega arith in
    let same : m ≡ put_at m p [] = rw here (sym (take-append-drop p m)) in
    subst (λ (x : List ℕ). m ≡ put_at m p x) (sym (nil_from_length a none)) same
