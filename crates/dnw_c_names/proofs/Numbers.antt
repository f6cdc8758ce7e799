-- Numbers that are put at the front of a list, one by one.
use Rattle.std.proofs.Common.{◌≡◌, ℕ, ◌+◌, ◌<◌, List, [], ◌∷◌, ◌++◌, length, take, drop, set, get_or, sym, ap, ◌∙◌, arith}
use Rattle.std.proofs.lemmas.List.{append_assoc, drop_more, length-take-le, length_push, set_at, take_more}
use Rattle.dnw_name_read.specs.Buffers.{put}

-- one more number is put
pub one_more : (numbers order after : List ℕ) (i d : ℕ) → i < length numbers → i < length order
    → after ≡ put order (take i numbers) → set after i (get_or numbers i d) ≡ put order (take (i + 1) numbers)
one_more numbers order after i d within room is =
    let y = get_or numbers i d in
    let p = take i numbers in
    let len : length p ≡ i = length-take-le i numbers (omega (arith, within)) in
    let more : take (i + 1) numbers ≡ p ++ y ∷ [] = take_more numbers i d within in
    let next : drop (length p) order ≡ get_or order i 0 ∷ drop (i + 1) order =
    ap (λ n. drop n order) len ∙ drop_more order i 0 room in
    let size : length (p ++ y ∷ []) ≡ i + 1 = length_push p y ∙ ap (λ n. n + 1) len in
    ap (λ l. set l i y) (is ∙ ap (λ l. p ++ l) next)
    ∙ set_at p (get_or order i 0) (drop (i + 1) order) y i len
    ∙ sym (append_assoc p (y ∷ []) (drop (i + 1) order))
    ∙ sym (ap (λ l. l ++ drop (length l) order) more ∙ ap (λ n. (p ++ y ∷ []) ++ drop n order) size)
