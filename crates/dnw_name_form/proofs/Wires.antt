-- The labels that an uncompressed form gives back.
use Rattle.std.proofs.Common.{◌≡◌, ◌↔◌, ℕ, zero, suc, ◌+◌, ◌-◌, ◌<◌, ◌≤◌, List, [], ◌∷◌, ◌++◌, length, take, drop, set, refl, sym, ap, ◌∙◌, subst, append_assoc, arith}
use Rattle.std.specs.List.{AllByRecursion}
use Rattle.std.proofs.lemmas.List.{take_at, drop_at, length-append, set_split, drop_all}
use Rattle.dnw_base.specs.Labels.{IsLabel, wildcard}
use Rattle.dnw_base.specs.Names.{AreLabels, encoded_size, labels_wire, wire}
use Rattle.dnw_base.proofs.Wires.{wire_cons, encoded_size_cons, encoded_size_push, length_wire, AllByRecursion_push, labels_wire_push, few_labels, AreLabels_rest, AreLabels_few, no_labels_size}
use Rattle.dnw_name_form.specs.Inside.WireBytes.{labels_within, labels_of, IsWire, SplitsLabel}

-- the first of what is left
labels_within_cons : (n : ℕ) (l bytes : List ℕ) → 1 ≤ length l → labels_within (suc n) (length l ∷ (l ++ bytes)) ≡ l ∷ labels_within n bytes
labels_within_cons n [] bytes h = absurd (omega (arith, h))
labels_within_cons n (b ∷ bs) bytes h = rw (take_at bs bytes (length bs) refl, drop_at bs bytes (length bs) refl) refl

labels_within_wire : (ls : List (List ℕ)) (n : ℕ) → AllByRecursion IsLabel ls → length ls ≤ n → labels_within n (wire ls) ≡ ls
labels_within_wire [] zero each le = refl
labels_within_wire [] (suc n) each le = refl
labels_within_wire (l ∷ ls) zero each le = absurd (omega (arith, le))
labels_within_wire (l ∷ ls) (suc n) each le =
    ap (labels_within (suc n)) (wire_cons l ls) ∙ labels_within_cons n l (wire ls) each.0.not_empty
    ∙ ap (λ (more : List (List ℕ)). l ∷ more) (labels_within_wire ls n each.1 (omega (arith, le)))

-- all but the closing zero
pub front_of : (ls : List (List ℕ)) (bytes : List ℕ) → bytes ≡ wire ls → take (length bytes - 1) bytes ≡ labels_wire ls
front_of ls bytes e =
    rw e (take_at (labels_wire ls) (0 ∷ []) _ (omega (arith, length-append (labels_wire ls) (0 ∷ []))))

pub labels_of_wire : (ls : List (List ℕ)) → AllByRecursion IsLabel ls → labels_of (wire ls) ≡ ls
unfolding labels_of
labels_of_wire ls each = labels_within_wire ls (length (wire ls)) each (omega (arith, length_wire ls, few_labels ls))

pub IsWire_wire : (ls : List (List ℕ)) → AreLabels ls → IsWire (wire ls)
IsWire_wire ls h =
    let same = labels_of_wire ls h.each in
    record { spelled = ap wire (sym same); labels = subst AreLabels (sym same) h }

-- octets that are the form of labels
pub labels_of_form : (bytes : List ℕ) (ls : List (List ℕ)) → bytes ≡ wire ls → AreLabels ls → IsWire bytes × (labels_of bytes ≡ ls)
labels_of_form bytes ls form h = (subst IsWire (sym form) (IsWire_wire ls h), ap labels_of form ∙ labels_of_wire ls h.each)

-- the size of a form is its length
pub size_of_wire : (bytes : List ℕ) → IsWire bytes → encoded_size (labels_of bytes) ≡ length bytes
size_of_wire bytes w = sym (length_wire (labels_of bytes)) ∙ ap length (sym w.spelled)

pub few_octets : (bytes : List ℕ) → IsWire bytes → length bytes ≤ 255
few_octets bytes w = omega (arith, size_of_wire bytes w, w.labels.fit)

pub one_octet : (bytes : List ℕ) → IsWire bytes → (length bytes ≡ 1) ↔ (labels_of bytes ≡ [])
one_octet bytes w = rw (← size_of_wire bytes w) (no_labels_size (labels_of bytes))

-- there is the closing zero
pub some_octet : (bytes : List ℕ) → IsWire bytes → length bytes - 1 < length bytes
some_octet bytes w = omega (arith, size_of_wire bytes w)

-- a label put in the place of the closing zero, with a zero after it, is the last label
pub IsWire_push : (bytes label : List ℕ) → IsWire bytes → IsLabel label → length bytes + 1 + length label ≤ 255
    → IsWire (set bytes (length bytes - 1) (length label) ++ label ++ 0 ∷ [])
    × (labels_of (set bytes (length bytes - 1) (length label) ++ label ++ 0 ∷ []) ≡ labels_of bytes ++ label ∷ [])
IsWire_push bytes label w h room =
    let ls : List (List ℕ) = labels_of bytes in
    let more : AreLabels (ls ++ label ∷ []) = record { each = AllByRecursion_push ls label w.labels.each h; fit = omega (arith, encoded_size_push ls label, size_of_wire bytes w, room) } in
    let front : take (length bytes - 1) bytes ≡ labels_wire ls = front_of ls bytes w.spelled in
    let last = set_split bytes (length bytes - 1) (length label) (some_octet bytes w) in
    let none : drop (suc (length bytes - 1)) bytes ≡ [] = drop_all (suc (length bytes - 1)) bytes (omega arith) in
    let form : set bytes (length bytes - 1) (length label) ++ label ++ 0 ∷ [] ≡ wire (ls ++ label ∷ []) =
    rw (last, none, front, labels_wire_push ls label, append_assoc (labels_wire ls) (length label ∷ []) label) refl in
    labels_of_form _ (ls ++ label ∷ []) form more

-- a form that begins with a zero is that of no labels
pub begins_with_zero : (bytes : List ℕ) (c : ℕ) (rest : List ℕ) → bytes ≡ c ∷ rest → c ≡ 0 → labels_of bytes ≡ []
unfolding labels_of
begins_with_zero bytes c rest e z = rw (e, z) refl

-- any other begins with a label, and goes on with the form of the others, but for what closes it
pub record Front (close : List ℕ → List ℕ) (ls : List (List ℕ)) (c : ℕ) (rest : List ℕ) : Type 0 where
  pub fits : c ≤ length rest
  pub is_label : IsLabel (take c rest)
  pub labels : ls ≡ take c rest ∷ labels_of (close (drop c rest))
  pub others : IsWire (close (drop c rest))

pub Front_cons : (close : List ℕ → List ℕ) (l : List ℕ) (ls : List (List ℕ)) (tail : List ℕ) (c : ℕ) (rest : List ℕ)
    → AreLabels (l ∷ ls) → close tail ≡ wire ls → length l ∷ (l ++ tail) ≡ c ∷ rest → Front close (l ∷ ls) c rest
Front_cons close l ls tail c rest h form e =
    let first : length l ≡ c = cc in
    let after : l ++ tail ≡ rest = cc in
    let label_is : take c rest ≡ l = rw (← after) (take_at l tail c first) in
    let rest_is : drop c rest ≡ tail = rw (← after) (drop_at l tail c first) in
    let more = labels_of_form (close tail) ls form (AreLabels_rest l ls h) in
    record {
      fits = omega (arith, ap length after, length-append l tail, first);
      is_label = subst IsLabel (sym label_is) h.each.0;
      labels = rw (label_is, rest_is, more.1) refl;
      others = rw rest_is more.0;
    }

pub Front_splits : (close : List ℕ → List ℕ) (bytes : List ℕ) (c : ℕ) (rest label after : List ℕ) → Front close (labels_of bytes) c rest
    → label ≡ take c rest → after ≡ drop c rest → SplitsLabel bytes label (close after)
Front_splits close bytes c rest label after f label_is after_is =
    rw (label_is, after_is) (record { labels = f.labels; is_label = f.is_label; others = f.others })

-- with the closing zero
abbrev pub whole : List ℕ → List ℕ
whole bytes = bytes

label_first : (ls : List (List ℕ)) (c : ℕ) (rest : List ℕ) → AreLabels ls → wire ls ≡ c ∷ rest → (c ≡ 0 → ⊥) → Front whole ls c rest
label_first [] c rest h e ne = absurd (ne (let zero_c : 0 ≡ c = cc in sym zero_c))
label_first (l ∷ ls) c rest h e ne = Front_cons whole l ls (wire ls) c rest h refl (sym (wire_cons l ls) ∙ e)

pub IsWire_front : (bytes : List ℕ) (c : ℕ) (rest : List ℕ) → IsWire bytes → bytes ≡ c ∷ rest → (c ≡ 0 → ⊥) → Front whole (labels_of bytes) c rest
IsWire_front bytes c rest w e ne = label_first (labels_of bytes) c rest w.labels (sym w.spelled ∙ e) ne

pub few_labels_of : (bytes : List ℕ) → IsWire bytes → length (labels_of bytes) ≤ 127
few_labels_of bytes w = AreLabels_few (labels_of bytes) w.labels

-- an asterisk in place of the first label
pub AreLabels_wildcard : (first : List ℕ) (rest ls : List (List ℕ)) → ls ≡ first ∷ rest → AreLabels ls → AreLabels (wildcard ∷ rest)
AreLabels_wildcard first rest ls split are =
    let h : AreLabels (first ∷ rest) = subst AreLabels split are in
    record {
      each = (record { not_empty = omega arith; not_long = omega arith }, h.each.1);
      fit = omega (arith, encoded_size_cons first rest, encoded_size_cons wildcard rest, h.each.0.not_empty, h.fit);
    }
