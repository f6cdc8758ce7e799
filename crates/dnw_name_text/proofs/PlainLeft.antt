-- Texts of plain names, of which the octets that stand for themselves are passed over label by label.
use Rattle.std.proofs.Common.{◌≡◌, ℕ, ◌+◌, ◌-◌, ◌<◌, ◌≤◌, true, false, List, [], ◌∷◌, ◌++◌, inl, inr, length, take, drop, get_or, refl, sym, ap, ◌∙◌, add-zero, append_assoc, arith}
use Rattle.std.specs.List.{AllByRecursion, list_all}
use Rattle.std.proofs.lemmas.Bool.{and_parts, both_ways, cases_order, false≢true}
use Rattle.std.proofs.lemmas.List.{length-append, length-take-le, get_or-take, get_or_append_left, get_or-append-add, get_or-drop, drop_at, drop-drop, length-drop}
use Rattle.std.proofs.lemmas.List.Folds.{list_all_at}
use Rattle.dnw_base.specs.Labels.{IsLabel}
use Rattle.dnw_base.specs.Names.{AreLabels, label_wire, labels_wire}
use Rattle.dnw_base.proofs.Wires.{length_wire}
use Rattle.dnw_name_form.specs.LabelText.{dot}
use Rattle.dnw_name_text.specs.NameTexts.{full_name_text}
use Rattle.dnw_name_text.specs.PlainNames.{is_own_octet, is_plain_label, is_plain_name}
use Rattle.dnw_name_text.specs.Inside.Plain.{plain_text}
use Rattle.dnw_name_text.proofs.PlainNames.{plain_each, plain_name, plain_name_size}

-- The text begins with n octets that stand for themselves, and not one more.
pub record IsOwnRun (text : List ℕ) (n : ℕ) : Type 0 where
  pub few : n ≤ length text
  pub own : list_all is_own_octet (take n text) ≡ true
  pub most : is_own_octet (get_or text n 0) ≡ false

-- the dot after a plain label ends them
run_is : (label others : List ℕ) (n : ℕ) → length label ≤ 63 → is_plain_label label ≡ true → IsOwnRun (label ++ dot ∷ others) n → n ≡ length label
unfolding is_own_octet
run_is label others n short plain run = elim (cases_order n (length label)) [
  | inl same ↦ same
  | inr (inl less) ↦
      let not_own = rw (get_or_append_left label (dot ∷ others) 0 n less) at run.most in
      absurd (both_ways _ (list_all_at is_own_octet label n 0 less not_own) plain)
  | inr (inr more) ↦
      let text = label ++ dot ∷ others in
      let is : get_or (take n text) (length label) 0 ≡ dot =
      get_or-take n text (length label) 0 more ∙ sym (ap (λ (i : ℕ). get_or text i 0) (add-zero (length label))) ∙ get_or-append-add label (dot ∷ others) 0 0 in
      absurd (both_ways _ (list_all_at is_own_octet (take n text) (length label) 0 (omega (arith, more, length-take-le n text run.few)) (rw is refl)) run.own)
]

-- These labels are left to be read, each plain, in a text that has a dot after each.
pub record LeftPlain (rest : List ℕ) : Type 0 where
  pub labels : List (List ℕ)
  pub each : AllByRecursion IsLabel labels
  pub plain : list_all is_plain_label labels ≡ true
  pub is : rest ≡ plain_text labels

-- The first of them, of n octets, and what is left after its dot.
pub record FirstPlain (rest : List ℕ) (n : ℕ) : Type 0 where
  pub some : 1 ≤ n
  pub short : n ≤ 63
  pub inside : n < length rest
  pub dotted : get_or rest n 0 ≡ dot
  pub left : LeftPlain (drop (n + 1) rest)

first_plain_of : (labels : List (List ℕ)) (n : ℕ) → AllByRecursion IsLabel labels → list_all is_plain_label labels ≡ true
    → 1 ≤ length (plain_text labels) → IsOwnRun (plain_text labels) n → FirstPlain (plain_text labels) n
first_plain_of [] n each plain some run = absurd (omega (arith, some))
first_plain_of (label ∷ labels) n each plain some run =
    let both = and_parts (is_plain_label label) _ plain in
    let text : plain_text (label ∷ labels) ≡ label ++ dot ∷ plain_text labels = append_assoc label (dot ∷ []) (plain_text labels) in
    let size : n ≡ length label = run_is label (plain_text labels) n each.0.not_long both.0 (rw text at run) in
    let after : drop (n + 1) (plain_text (label ∷ labels)) ≡ plain_text labels =
    drop_at (label ++ dot ∷ []) (plain_text labels) (n + 1) (omega (arith, size, length-append label (dot ∷ []))) in
    record {
      some = omega (arith, size, each.0.not_empty);
      short = omega (arith, size, each.0.not_long);
      inside = omega (arith, size, ap length text, length-append label (dot ∷ plain_text labels));
      dotted =
          ap (λ (t : List ℕ). get_or t n 0) text ∙ ap (λ (i : ℕ). get_or (label ++ dot ∷ plain_text labels) i 0) (size ∙ sym (add-zero (length label)))
          ∙ get_or-append-add label (dot ∷ plain_text labels) 0 0;
      left = record { labels = labels; each = each.1; plain = both.1; is = after };
    }

pub first_plain : (rest : List ℕ) (n : ℕ) → LeftPlain rest → 1 ≤ length rest → IsOwnRun rest n → FirstPlain rest n
first_plain rest n left some run = rw left.is (first_plain_of left.labels n left.each left.plain (rw left.is at some) (rw left.is at run))

-- What is left of a text from start on is so, if the whole text is that of a plain name.
abbrev pub LeavesPlain : List ℕ → ℕ → Type 0
LeavesPlain text start = (labels : List (List ℕ)) → AreLabels labels → is_plain_name labels ≡ true → text ≡ full_name_text labels → LeftPlain (drop start text)

pub leaves_all : (text : List ℕ) → LeavesPlain text 0
leaves_all text = λ labels are plain is.
    record { labels = labels; each = are.each; plain = plain_each labels plain; is = is ∙ plain_name labels plain }

-- and after its first label and the dot
pub leaves_more : (text : List ℕ) (start n : ℕ) → LeavesPlain text start → start < length text → IsOwnRun (drop start text) n → LeavesPlain text (start + n + 1)
leaves_more text start n leaves lt run = λ labels are plain is.
    let first = first_plain _ n (leaves labels are plain is) (omega (arith, lt, length-drop start text)) run in
    let after : drop (n + 1) (drop start text) ≡ drop (start + n + 1) text = drop-drop (n + 1) start text ∙ ap (λ (i : ℕ). drop i text) (omega arith) in
    rw after at first.left

-- So a text that has no octet there, or too many, or anything but a dot after them, is not the text of a plain name.
pub no_label : (text : List ℕ) (start n : ℕ) → LeavesPlain text start → start < length text → IsOwnRun (drop start text) n
    → (1 ≤ n → n ≤ 63 → start + n < length text → get_or text (start + n) 0 ≡ dot → ⊥)
    → (labels : List (List ℕ)) → AreLabels labels → is_plain_name labels ≡ true → text ≡ full_name_text labels → ⊥
no_label text start n leaves lt run never labels are plain is =
    let first = first_plain _ n (leaves labels are plain is) (omega (arith, lt, length-drop start text)) run in
    never first.some first.short (omega (arith, first.inside, length-drop start text)) (sym (get_or-drop start text n 0) ∙ first.dotted)

-- it has two octets or more, and 254 at most
pub plain_bounds : (labels : List (List ℕ)) → AreLabels labels → is_plain_name labels ≡ true → (1 ≤ length (full_name_text labels)) × (length (full_name_text labels) < 255)
plain_bounds [] are plain = absurd (false≢true plain)
plain_bounds (label ∷ labels) are plain =
    let size = plain_name_size (label ∷ labels) plain in
    let whole = length_wire (label ∷ labels) in
    let parts = length-append (label_wire label ++ labels_wire labels) (0 ∷ []) in
    (omega (arith, size, parts, length-append (label_wire label) (labels_wire labels)), omega (arith, size, whole, are.fit))

-- and a dot at its end
last_dot : (labels : List (List ℕ)) → 1 ≤ length (plain_text labels) → get_or (plain_text labels) (length (plain_text labels) - 1) 0 ≡ dot
last_dot [] some = absurd (omega (arith, some))
last_dot (label ∷ []) some =
    let text = label ++ dot ∷ [] in
    let size = length-append label (dot ∷ []) in
    let end : length (text ++ []) - 1 ≡ length label + 0 = omega (arith, size, length-append text []) in
    rw (end, append_assoc label (dot ∷ []) []) (get_or-append-add label (dot ∷ []) 0 0)
last_dot (label ∷ next ∷ labels) some =
    let first = label ++ dot ∷ [] in
    let others = plain_text (next ∷ labels) in
    let one : 1 ≤ length others = omega (arith, length-append (next ++ dot ∷ []) (plain_text labels), length-append next (dot ∷ [])) in
    let end : length (first ++ others) - 1 ≡ length first + (length others - 1) = omega (arith, length-append first others, one) in
    rw end (get_or-append-add first others (length others - 1) 0) ∙ last_dot (next ∷ labels) one

pub plain_last : (text : List ℕ) (labels : List (List ℕ)) → AreLabels labels → is_plain_name labels ≡ true → text ≡ full_name_text labels → get_or text (length text - 1) 0 ≡ dot
plain_last text labels are plain is =
    let some = (plain_bounds labels are plain).0 in
    let same = is ∙ plain_name labels plain in
    rw same (last_dot labels (omega (arith, some, ap length is, ap length same)))
