-- One step of writing a name: a pointer, a label, or the end.
use Rattle.std.proofs.Common.{◌≡◌, ℕ, ◌+◌, List, [], ◌∷◌, ◌++◌, length, take, drop, refl, sym, ap, ◌∙◌, subst, inl, inr, arith, drop_at}
use Rattle.std.proofs.lemmas.List.{drop-drop, take_at}
use Rattle.std.proofs.Math.Seq.{take-add}
use Rattle.dnw_base.specs.Names.{encoded_size, label_wire, wire}
use Rattle.dnw_base.proofs.Wires.{encoded_size_cons, wire_cons}
use Rattle.dnw_message_writer.specs.CompressedNames.{Compresses, FindsHint, FindsNoHint, kept_hints, pointer_octets}

-- What is left of a wire form after its first label, and what has been passed.
module _ (name : List ℕ) (passed : ℕ) (all ls : List (List ℕ)) (l : List ℕ) (split : all ≡ l ∷ ls) (left : drop passed name ≡ wire all) where
  here : drop passed name ≡ label_wire l ++ wire ls
  here = left ∙ (ap wire split ∙ wire_cons l ls)

  pub left_after : drop (passed + (length l + 1)) name ≡ wire ls
  left_after = sym (drop-drop (length l + 1) passed name) ∙ (ap (drop (length l + 1)) here ∙ drop_at (label_wire l) (wire ls) (length l + 1) (omega arith))

  pub passed_after : take (passed + (length l + 1)) name ≡ take passed name ++ label_wire l
  passed_after = take-add passed (length l + 1) name ∙ ap (λ x. take passed name ++ x) (ap (take (length l + 1)) here ∙ take_at (label_wire l) (wire ls) (length l + 1) (omega arith))

pub size_after : (passed size : ℕ) (all ls : List (List ℕ)) (l : List ℕ) → all ≡ l ∷ ls → passed + encoded_size all ≡ size
    → passed + (length l + 1) + encoded_size ls ≡ size
size_after passed size all ls l split is = omega (arith, is, ap encoded_size split, encoded_size_cons l ls)

module _ (slot : List (List ℕ) → ℕ) (b : List ℕ) (gap at : ℕ) (hints : List ℕ) where
  -- the closing zero is written
  pub ends : (all : List (List ℕ)) → all ≡ [] → Compresses slot b gap at hints all (0 ∷ []) hints
  ends all none = subst (λ x. Compresses slot b gap at hints x (0 ∷ []) hints) (sym none) (refl, refl)

  -- a pointer is written
  pub points : (all ls : List (List ℕ)) (l : List ℕ) (octets : List ℕ) (hint : ℕ) → all ≡ l ∷ ls → FindsHint b gap hints (slot all) all hint
      → octets ≡ pointer_octets hint → Compresses slot b gap at hints all octets hints
  points all ls l octets hint split finds is =
      let at_all : List (List ℕ) → Type 0 = λ x. FindsHint b gap hints (slot x) x hint → Compresses slot b gap at hints x octets hints in
      subst at_all (sym split) (λ f. inl (hint, f, is, refl)) finds

  -- a label is written
  pub spells : (all ls : List (List ℕ)) (l rest octets after : List ℕ) (next : ℕ) → all ≡ l ∷ ls
      → FindsNoHint b gap hints (slot all) all → octets ≡ label_wire l ++ rest → next ≡ at + (length l + 1)
      → Compresses slot b gap next (kept_hints hints (slot all) at) ls rest after → Compresses slot b gap at hints all octets after
  spells all ls l rest octets after next split not is next_is more =
      let moved : next ≡ at + 1 + length l = omega (arith, next_is) in
      let at_all : List (List ℕ) → Type 0 = λ x. FindsNoHint b gap hints (slot x) x
      → Compresses slot b gap (at + 1 + length l) (kept_hints hints (slot x) at) ls rest after → Compresses slot b gap at hints x octets after in
      subst at_all (sym split) (λ n m. inr (n, rest, is, m)) not (rw moved at more)
