-- The last label by its length.
use Rattle.std.proofs.Common.{◌≡◌, ℕ, ◌+◌, ◌-◌, ◌/◌, ◌%◌, ◌≤◌, List, [], ◌∷◌, ◌++◌, inl, inr, length, take, drop, reverse, sym, ap, ◌∙◌, subst, append_assoc, arith}
use Rattle.std.proofs.lemmas.List.{append_cancel_right, drop_at, length-append, reverse-append, reverse-reverse}
use Rattle.dnw_base.specs.Names.{labels_wire}
use Rattle.dnw_base.proofs.Wires.{labels_wire_push}
use Rattle.dnw_name_form.specs.Inside.Lengths.{HasLengths}
use Rattle.dnw_name_form.specs.Inside.WireBytes.{closed, labels_of, IsWire}
use Rattle.dnw_name_form.proofs.OpenWires.{open_last}
use Rattle.dnw_name_order.specs.Inside.Lengths.{SplitsBack}

-- the last label, whose bytes are the last ones
pub split_back : (bytes : List ℕ) (ls : List (List ℕ)) (lengths : ℕ) → IsWire (closed bytes) → reverse (labels_of (closed bytes)) ≡ ls → HasLengths ls lengths → 1 ≤ lengths
    → (1 + lengths % 256 ≤ length bytes) × SplitsBack bytes (take (length bytes - lengths % 256 - 1) bytes) (drop (length bytes - lengths % 256) bytes) (lengths / 256)
split_back bytes [] lengths w e none some = absurd (omega (arith, none, some))
split_back bytes (l ∷ ls) lengths w e (inl none) some = absurd (omega (arith, none, some))
split_back bytes (l ∷ ls) lengths w e (inr (low, others)) some =
    let whole : labels_of (closed bytes) ≡ reverse ls ++ l ∷ [] = sym (reverse-reverse (labels_of (closed bytes))) ∙ ap reverse e ∙ reverse-append (l ∷ []) ls in
    let (fits, splits) = open_last bytes (reverse ls) l w whole in
    let front = labels_wire (reverse ls) in
    let form : bytes ≡ (front ++ length l ∷ []) ++ l =
    append_cancel_right bytes (labels_wire (labels_of (closed bytes))) (0 ∷ []) w.spelled ∙ ap labels_wire whole ∙ labels_wire_push (reverse ls) l
    ∙ sym (append_assoc front (length l ∷ []) l) in
    let end : length (front ++ length l ∷ []) ≡ length bytes - length l = omega (arith, ap length form, length-append (front ++ length l ∷ []) l) in
    let label : drop (length bytes - length l) bytes ≡ l = ap (drop (length bytes - length l)) form ∙ drop_at (front ++ length l ∷ []) l (length bytes - length l) end in
    let before = labels_of (closed (take (length bytes - 1 - length l) bytes)) in
    let same : length bytes - length l - 1 ≡ length bytes - 1 - length l = omega arith in
    let both : l ∷ reverse before ≡ l ∷ ls = sym (reverse-append before (l ∷ [])) ∙ ap reverse (sym splits.labels) ∙ e in
    let left : reverse before ≡ ls = cc in
    rw (low, same) (fits, record { labels = e ∙ sym both ∙ ap (λ (x : List ℕ). x ∷ reverse before) (sym label); others = splits.others; known = subst (λ (rest : List (List ℕ)). HasLengths rest (lengths / 256)) (sym left) others })
