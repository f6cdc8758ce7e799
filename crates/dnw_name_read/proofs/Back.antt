-- An uncompressed form is read back, whatever stands before and after it.
use Rattle.std.proofs.Common.{◌≡◌, ℕ, ◌+◌, ◌-◌, ◌≤◌, take, drop, Some, None, List, [], ◌∷◌, ◌++◌, length, slice_get, slice_range, refl, subst, ap, sym, ◌∙◌, append_assoc, arith, length-append, drop_at}
use Rattle.std.specs.List.{AllByRecursion}
use Rattle.std.proofs.lemmas.Grind.{common_steps}
use Rattle.std.proofs.lemmas.Option.{gets}
use Rattle.std.proofs.lemmas.List.{append-nil, take_at, take-append-drop, length-take-le}
use Rattle.dnw_base.specs.Labels.{IsLabel}
use Rattle.dnw_base.specs.Names.{AreLabels, encoded_size, labels_wire, wire}
use Rattle.dnw_name_read.specs.Reading.{NameAt, Reads, zero_octet, label}
use Rattle.dnw_name_read.specs.ReadingLaws.{ReadsBack}
use Rattle.dnw_base.proofs.Wires.{length_wire}

-- the octet at a seam
pub slice_get_seam : (xs ys : List ℕ) (y p : ℕ) → p ≡ length xs → slice_get (xs ++ (y ∷ ys)) p ≡ Some y
slice_get_seam xs ys y p p_is = grind (arith, common_steps, gets)

-- the middle of three parts
pub slice_range_middle : (xs ys zs : List ℕ) (i j : ℕ) → i ≡ length xs → j ≡ i + length ys → slice_range (xs ++ (ys ++ zs)) i j ≡ ys
slice_range_middle xs ys zs i j i_is j_is = rw (drop_at xs (ys ++ zs) i (sym i_is)) (take_at ys zs (j - i) (omega arith))

-- labels that are written in a row are read, and what is read after them follows
pub Reads_front : (b before behind : List ℕ) (front back : List (List ℕ)) (p q s e k : ℕ) → p ≡ length before
    → q ≡ p + length (labels_wire front) → b ≡ before ++ (labels_wire front ++ behind) → AllByRecursion IsLabel front
    → Reads b q s None back e k → Reads b p s None (front ++ back) e k
Reads_front b before behind [] back p q s e k p_is q_is b_is all r = let same : q ≡ p = omega arith in rw same at r
Reads_front b before behind (l ∷ front) back p q s e k p_is q_is b_is all r =
    let start = before ++ (length l ∷ []) in
    let parts : b ≡ start ++ (l ++ (labels_wire front ++ behind)) = b_is ∙ simp append_assoc in
    let rest : b ≡ (start ++ l) ++ (labels_wire front ++ behind) = parts ∙ simp append_assoc in
    let part : slice_range b (p + 1) (p + 1 + length l) ≡ l = rw parts (slice_range_middle start l _ _ _ (omega (arith, length-append {A = ℕ})) refl) in
    let here : slice_get b p ≡ Some (length l) = rw b_is (slice_get_seam before _ (length l) p p_is) in
    let more = Reads_front b (start ++ l) behind front back (p + 1 + length l) q s e k (omega (arith, length-append {A = ℕ})) (omega (arith, q_is, length-append l (labels_wire front))) rest all.1 r in
    subst (λ x. Reads b p s None (x ∷ (front ++ back)) e k) part (label (length l) tt here all.0.not_empty all.0.not_long (omega (arith, ap length rest, length-append {A = ℕ})) more)

-- an uncompressed form in any message is read, in a segment with no limit
pub Reads_wire : (b before behind : List ℕ) (ls : List (List ℕ)) (p s e : ℕ) → p ≡ length before
    → e ≡ p + encoded_size ls → b ≡ before ++ (wire ls ++ behind) → AllByRecursion IsLabel ls → Reads b p s None ls e 0
Reads_wire b before behind ls p s e p_is e_is b_is all =
    let end : e ≡ p + length (labels_wire ls) + 1 = omega (arith, length_wire ls, length-append (labels_wire ls) (0 ∷ [])) in
    let parts : b ≡ before ++ (labels_wire ls ++ (0 ∷ behind)) = b_is ∙ simp append_assoc in
    let here : slice_get b (p + length (labels_wire ls)) ≡ Some 0 =
    rw (parts, ← append_assoc before (labels_wire ls) (0 ∷ behind)) (slice_get_seam (before ++ labels_wire ls) behind 0 _ (omega (arith, length-append {A = ℕ}))) in
    rw end (rw append-nil at (Reads_front b before (0 ∷ behind) ls [] p _ s _ 0 p_is refl parts all (zero_octet tt here)))

pub reads_back : ReadsBack
reads_back before behind ls are = record {
  reads = Reads_wire (before ++ wire ls ++ behind) before behind ls _ (length before) _ refl refl (append_assoc before (wire ls) behind) are.each;
  fits = are.fit;
}

-- an uncompressed form that stands at a place is read there
pub NameAt_form : (b form : List ℕ) (p : ℕ) (ls : List (List ℕ)) → p ≤ length b → take (length form) (drop p b) ≡ form → form ≡ wire ls → AreLabels ls
    → NameAt b p ls (p + encoded_size ls) 0
NameAt_form b form p ls within stands is are =
    let rest : form ++ drop (length form) (drop p b) ≡ drop p b = ap (λ (x : List ℕ). x ++ drop (length form) (drop p b)) (sym stands) ∙ take-append-drop (length form) (drop p b) in
    let split : take p b ++ wire ls ++ drop (length form) (drop p b) ≡ b = rw (append_assoc, ← is, rest) (take-append-drop p b) in
    rw (length-take-le p b within, split) at (reads_back (take p b) (drop (length form) (drop p b)) ls are)
