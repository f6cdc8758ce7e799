-- Names by their wire form.
use Rattle.std.proofs.Common.{◌≡◌, ℕ, zero, suc, ◌+◌, ◌-◌, ◌<◌, ◌≤◌, ◌&&◌, Bool, true, false, true≢false, cond, eqb, leb, ltb, List, [], ◌∷◌, ◌++◌, length, take, drop, Some, None, refl, sym, ap, ◌∙◌, subst, arith}
use Rattle.std.proofs.lemmas.Bool.{le-leb, leb-true}
use Rattle.std.proofs.lemmas.Bool.Decides.{Decides-eqb, nat_tests}
use Rattle.std.proofs.lemmas.Grind.{flat_map-append}
use Rattle.std.proofs.lemmas.List.{append-nil, append_assoc, length-append, length-drop, nil_from_length, take-append-drop, take_at}
use Rattle.std.proofs.lemmas.List.Sums.{sum_by-cons}
use Rattle.std.proofs.lemmas.Slice.Eq.{slice_eq-Decides}
use Rattle.std.specs.Cmp.Derive.{both_true}
use Rattle.std.specs.Cmp.Lexicographic.{pointwise}
use Rattle.std.specs.List.{AllByRecursion, list_all}
use Rattle.dns_names_wire.specs.Words.{AreLabels, Decoder, IsLabel, NameAt, ReadsBack, TakesName, encoded_size, labels_wire, max_label, max_name, wire}
use Rattle.ans_store.proofs.Reading.{leading, wire_length}
use Rattle.ans_store.specs.Stored.{leading_labels}
use Rattle.ans_answer.specs.Targets.{To, TooLong, are_labels, if_short, is_label, name_in}

both : (a b : Bool) → (a && b) ≡ true → (a ≡ true) × (b ≡ true)
both true b h = (refl, h)
both false b h = absurd (true≢false (sym h))

-- ---- labels by their tests

label_by_test : (l : List ℕ) → is_label l ≡ true → IsLabel l
unfolding is_label
label_by_test l h =
    let (some, few) = both (leb 1 (length l)) (leb (length l) max_label) h in
    record { not_empty = leb-true 1 (length l) some; not_long = leb-true (length l) max_label few }

test_by_label : (l : List ℕ) → IsLabel l → is_label l ≡ true
unfolding is_label
test_by_label l is = both_true (le-leb 1 (length l) is.not_empty) (le-leb (length l) max_label is.not_long)

each_by_test : (ls : List (List ℕ)) → list_all is_label ls ≡ true → AllByRecursion IsLabel ls
each_by_test [] h = tt
each_by_test (l ∷ ls) h =
    let (first, others) = both (is_label l) (list_all is_label ls) h in
    (label_by_test l first, each_by_test ls others)

test_by_each : (ls : List (List ℕ)) → AllByRecursion IsLabel ls → list_all is_label ls ≡ true
test_by_each [] each = refl
test_by_each (l ∷ ls) each = both_true (test_by_label l each.0) (test_by_each ls each.1)

labels_by_test : (ls : List (List ℕ)) → are_labels ls ≡ true → AreLabels ls
unfolding are_labels
labels_by_test ls h =
    let (each, fit) = both (list_all is_label ls) (leb (encoded_size ls) max_name) h in
    record { each = each_by_test ls each; fit = leb-true (encoded_size ls) max_name fit }

test_by_labels : (ls : List (List ℕ)) → AreLabels ls → are_labels ls ≡ true
unfolding are_labels
test_by_labels ls are = both_true (test_by_each ls are.each) (le-leb (encoded_size ls) max_name are.fit)

-- ---- the name whose wire form octets are

few : (ls : List (List ℕ)) → length ls < encoded_size ls
few [] = omega arith
few (l ∷ ls) = omega (arith, few ls, sum_by-cons (λ (m : List ℕ). length m + 1) l ls)

few_labels : (ls : List (List ℕ)) → AreLabels ls → length ls < max_name
few_labels ls are = omega (arith, few ls, are.fit)

pub begins : (ls : List (List ℕ)) (octets rest : List ℕ) → AreLabels ls → octets ≡ wire ls ++ rest → leading_labels max_name octets ≡ ls
begins ls octets rest are is = ap (leading_labels max_name) is ∙ leading max_name ls rest are.each (few_labels ls are)

pub is_whole : (ls : List (List ℕ)) (octets : List ℕ) → AreLabels ls → octets ≡ wire ls → leading_labels max_name octets ≡ ls
is_whole ls octets are is = begins ls octets [] are (is ∙ sym (append-nil (wire ls)))

-- The octets are a wire form, if they have no others after it.
pub whole_if_long : (ls : List (List ℕ)) (octets : List ℕ) → octets ≡ wire ls ++ drop (length (wire ls)) octets → length (wire ls) ≡ length octets
    → octets ≡ wire ls
whole_if_long ls octets is long =
    let none : drop (length (wire ls)) octets ≡ [] = nil_from_length (drop (length (wire ls)) octets) (omega (arith, length-drop (length (wire ls)) octets, long)) in
    is ∙ (ap (λ (os : List ℕ). wire ls ++ os) none ∙ append-nil (wire ls))

same_octets : (x y : List ℕ) → x ≡ y → pointwise eqb x y ≡ true
same_octets x y is = (slice_eq-Decides Decides-eqb x y (pointwise eqb x y) refl).1 is

octets_same : (x y : List ℕ) → pointwise eqb x y ≡ true → x ≡ y
octets_same x y is = (slice_eq-Decides Decides-eqb x y (pointwise eqb x y) refl).0 is

-- What is a name's wire form gives the name.
pub gives_name : (ls : List (List ℕ)) (octets : List ℕ) → AreLabels ls → octets ≡ wire ls → name_in octets ≡ Some ls
unfolding name_in
gives_name ls octets are is =
    rw (is_whole ls octets are is, test_by_labels ls are, same_octets (wire ls) octets (sym is)) refl

if_not : {T : Type 0} (b : Bool) (x : T) → (b ≡ true → ⊥) → cond b (Some x) None ≡ None
if_not true x never = absurd (never refl)
if_not false x never = refl

-- What is no name's wire form gives none.
pub gives_none : (octets : List ℕ) → ((ls : List (List ℕ)) → AreLabels ls → octets ≡ wire ls → ⊥) → name_in octets ≡ None
unfolding name_in
gives_none octets never =
    let ls = leading_labels max_name octets in
    if_not (are_labels ls && pointwise eqb (wire ls) octets) ls
    (λ yes. let (are, is) = both (are_labels ls) (pointwise eqb (wire ls) octets) yes in never ls (labels_by_test ls are) (sym (octets_same (wire ls) octets is)))

-- Octets after a name's wire form make it none.
pub gives_none_longer : (ls : List (List ℕ)) (octets rest : List ℕ) → AreLabels ls → octets ≡ wire ls ++ rest → length (wire ls) < length octets
    → name_in octets ≡ None
gives_none_longer ls octets rest are is longer =
    gives_none octets (λ other them same.
    let first : leading_labels max_name octets ≡ ls = begins ls octets rest are is in
    let second : leading_labels max_name octets ≡ other = is_whole other octets them same in
    let equal : length octets ≡ length (wire ls) = ap length same ∙ ap (λ (x : List (List ℕ)). length (wire x)) (sym second ∙ first) in
    omega (arith, equal, longer))

-- No octets are no name.
pub nothing_is_none : (octets : List ℕ) (count : ℕ) → length octets < count → name_in (drop count octets) ≡ None
nothing_is_none octets count h =
    gives_none (drop count octets) (λ ls are is. omega (arith, ap length is, wire_length ls, length-drop count octets))

-- ---- a wire form is read

pub reads_whole : (back : ReadsBack) (ls : List (List ℕ)) (octets : List ℕ) (reader : Decoder) → AreLabels ls → octets ≡ wire ls
    → reader ≡ record { bytes = octets; index = 0 }
    → TakesName reader (record { bytes = octets; index = encoded_size ls }) ls 0
reads_whole back ls octets reader are is at =
    let end : 0 + encoded_size ls ≡ encoded_size ls = omega arith in
    subst (λ (d : Decoder). TakesName d (record { bytes = octets; index = encoded_size ls }) ls 0) (sym at)
    (record {
      end = encoded_size ls;
      name = subst (λ (os : List ℕ). NameAt os 0 ls (encoded_size ls) 0) (append-nil (wire ls) ∙ sym is) (subst (λ e. NameAt (wire ls ++ []) 0 ls e 0) end (back [] [] ls are));
      moved = refl;
    })

-- ---- the front of a name, and another one after it

pub wire_append : (front last : List (List ℕ)) → wire (front ++ last) ≡ labels_wire front ++ wire last
wire_append front last = ap (λ (os : List ℕ). os ++ 0 ∷ []) (flat_map-append (λ (l : List ℕ). length l ∷ l) front last) ∙ append_assoc (labels_wire front) (labels_wire last) (0 ∷ [])

-- ---- the labels of a name that are kept, and those of a target

front_size : (ls : List (List ℕ)) (k : ℕ) → length (labels_wire (take k ls)) + encoded_size (drop k ls) ≡ encoded_size ls
front_size ls k =
    omega (
      arith,
      wire_length (drop k ls),
      wire_length ls,
      ap (λ (os : List (List ℕ)). length (wire os)) (take-append-drop k ls),
      ap length (wire_append (take k ls) (drop k ls)),
      length-append (labels_wire (take k ls)) (wire (drop k ls)),
    )

each_front : (ls : List (List ℕ)) (k : ℕ) → AllByRecursion IsLabel ls → AllByRecursion IsLabel (take k ls)
each_front [] zero each = tt
each_front [] (suc k) each = tt
each_front (l ∷ ls) zero each = tt
each_front (l ∷ ls) (suc k) each = (each.0, each_front ls k each.1)

each_both : (xs ys : List (List ℕ)) → AllByRecursion IsLabel xs → AllByRecursion IsLabel ys → AllByRecursion IsLabel (xs ++ ys)
each_both [] ys first second = second
each_both (x ∷ xs) ys first second = (first.0, each_both xs ys first.1 second)

-- The front of a name, and a target after it.
module _ (ls last target : List (List ℕ)) (k : ℕ) (is : last ≡ drop k ls) where
  pub last_fits : encoded_size last ≤ encoded_size ls
  last_fits = omega (arith, front_size ls k, ap encoded_size is)

  pub front_is : take (encoded_size ls - encoded_size last) (wire ls) ≡ labels_wire (take k ls)
  front_is =
      let size : length (labels_wire (take k ls)) ≡ encoded_size ls - encoded_size last = omega (arith, front_size ls k, ap encoded_size is) in
      ap (λ (os : List (List ℕ)). take (encoded_size ls - encoded_size last) (wire os)) (sym (take-append-drop k ls))
      ∙ (ap (take (encoded_size ls - encoded_size last)) (wire_append (take k ls) (drop k ls))
      ∙ take_at (labels_wire (take k ls)) (wire (drop k ls)) (encoded_size ls - encoded_size last) size)

  pub both_size : encoded_size (take k ls ++ target) ≡ encoded_size ls - encoded_size last + encoded_size target
  both_size =
      omega (
        arith,
        front_size ls k,
        ap encoded_size is,
        wire_length (take k ls ++ target),
        wire_length target,
        ap length (wire_append (take k ls) target),
        length-append (labels_wire (take k ls)) (wire target),
      )

  pub both_labels : AreLabels ls → AreLabels target → encoded_size ls - encoded_size last + encoded_size target ≤ max_name → AreLabels (take k ls ++ target)
  both_labels are them fits =
      record { each = each_both (take k ls) target (each_front ls k are.each) them.each; fit = omega (arith, both_size, fits) }

  -- What is put into a room is the wire form of both.
  pub both_wire : (first second : List ℕ) → first ≡ take (encoded_size ls - encoded_size last) (wire ls) → second ≡ first ++ wire target
      → second ≡ wire (take k ls ++ target)
  both_wire first second begins ends =
      ends ∙ (ap (λ (os : List ℕ). os ++ wire target) (begins ∙ front_is) ∙ sym (wire_append (take k ls) target))

is_past : (a b : ℕ) → a < b → ltb a b ≡ true
is_past a b h = grind (arith, nat_tests)

is_within : (a b : ℕ) → b ≤ a → ltb a b ≡ false
is_within a b h = grind (arith, nat_tests)

pub too_long : (ls : List (List ℕ)) → max_name < encoded_size ls → TooLong ≡ if_short ls
unfolding if_short
too_long ls h = rw (is_past max_name (encoded_size ls) h) refl

pub short : (ls : List (List ℕ)) → encoded_size ls ≤ max_name → To ls ≡ if_short ls
unfolding if_short
short ls h = rw (is_within max_name (encoded_size ls) h) refl
