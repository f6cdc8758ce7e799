-- Wire forms without the closing zero.
use Rattle.std.proofs.Common.{◌≡◌, ℕ, ◌+◌, ◌-◌, ◌≤◌, List, [], ◌∷◌, ◌++◌, length, take, refl, sym, ap, ◌∙◌, subst, arith}
use Rattle.std.specs.List.{AllByRecursion}
use Rattle.std.proofs.lemmas.List.{append_cancel_right, take_at, length-append}
use Rattle.dnw_base.specs.Labels.{IsLabel}
use Rattle.dnw_base.specs.Names.{AreLabels, labels_wire}
use Rattle.dnw_base.proofs.Wires.{encoded_size_push, labels_wire_push}
use Rattle.dnw_name_form.specs.Inside.WireBytes.{closed, labels_of, IsWire, SplitsLast}
use Rattle.dnw_name_form.proofs.Wires.{labels_of_form, Front, Front_cons}

open_wire : (bytes : List ℕ) → IsWire (closed bytes) → bytes ≡ labels_wire (labels_of (closed bytes))
open_wire bytes w = append_cancel_right bytes (labels_wire (labels_of (closed bytes))) (0 ∷ []) w.spelled

-- octets that begin with a length octet, after which the first label and the others stand
abbrev pub OpenFront : List (List ℕ) → ℕ → List ℕ → Type 0
OpenFront ls c rest = Front closed ls c rest

first_label : (ls : List (List ℕ)) (c : ℕ) (rest : List ℕ) → AreLabels ls → labels_wire ls ≡ c ∷ rest → OpenFront ls c rest
first_label [] c rest h e = absurd cc
first_label (l ∷ ls) c rest h e = Front_cons closed l ls (labels_wire ls) c rest h refl e

pub open_front : (bytes : List ℕ) (c : ℕ) (rest : List ℕ) → IsWire (closed bytes) → bytes ≡ c ∷ rest → OpenFront (labels_of (closed bytes)) c rest
open_front bytes c rest w e = first_label (labels_of (closed bytes)) c rest w.labels (sym (open_wire bytes w) ∙ e)

each_front : (front : List (List ℕ)) (last : List ℕ) → AllByRecursion IsLabel (front ++ last ∷ []) → AllByRecursion IsLabel front
each_front [] last each = tt
each_front (l ∷ front) last each = (each.0, each_front front last each.1)

-- what is before the last label
pub open_last : (bytes : List ℕ) (front : List (List ℕ)) (last : List ℕ) → IsWire (closed bytes) → labels_of (closed bytes) ≡ front ++ last ∷ []
    → (1 + length last ≤ length bytes) × SplitsLast bytes (take (length bytes - 1 - length last) bytes) last
open_last bytes front last w e =
    let form : bytes ≡ labels_wire front ++ length last ∷ last = open_wire bytes w ∙ ap labels_wire e ∙ labels_wire_push front last in
    let size : length bytes ≡ length (labels_wire front) + (1 + length last) = ap length form ∙ (length-append (labels_wire front) (length last ∷ last) ∙ omega arith) in
    let count : length bytes - 1 - length last ≡ length (labels_wire front) = omega (arith, size) in
    let before : take (length bytes - 1 - length last) bytes ≡ labels_wire front =
    rw count (ap (take (length (labels_wire front))) form ∙ take_at (labels_wire front) (length last ∷ last) (length (labels_wire front)) refl) in
    let all : AreLabels (front ++ last ∷ []) = subst AreLabels e w.labels in
    let are : AreLabels front = record { each = each_front front last all.each; fit = omega (arith, encoded_size_push front last, all.fit) } in
    let (others, same) = labels_of_form (closed (take (length bytes - 1 - length last) bytes)) front (ap closed before) are in
    (omega (arith, size), record { labels = e ∙ ap (λ (ls : List (List ℕ)). ls ++ last ∷ []) (sym same); others = others })

pub closed_none : (bytes : List ℕ) → length bytes ≡ 0 → labels_of (closed bytes) ≡ []
unfolding labels_of
closed_none [] e = refl
closed_none (b ∷ bytes) e = absurd (omega (arith, e))
