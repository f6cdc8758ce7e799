-- Why names are totally ordered, and why equal ones are fed to a hasher alike.
use Rattle.std.proofs.Common.{◌≡◌, ◌↔◌, ℕ, Bool, true, false, List, [], ◌∷◌, ◌++◌, map, reverse, refl, sym, ap, ◌∙◌, nat_cmp, true≢false}
use Rattle.std.specs.Bool.{Decides, IsTrue, one_answer}
use Rattle.std.specs.Char.{to_ascii_lowercase}
use Rattle.std.specs.Cmp.{IsTotalOrder, IsPartialOrder, IsEquivalence, po, then_total, on_total, nat_cmp_total, bool_cmp_total, and_equiv, on_equiv, nat_eq_equiv, eq_by_cmp_equiv, both_tied, unsigned_Decides, unsigned_ties, first_so, second_so}
use Rattle.std.specs.Cmp.Lexicographic.{lists_total, lists_equiv, lists_ties, pointwise_decides, slice_cmp}
use Rattle.std.specs.Ordering.{eq_by_cmp, bool_cmp, as_partial_cmp}
use Rattle.std.proofs.lemmas.List.{reverse-append, reverse-reverse, map-append}
use Rattle.dnw_base.specs.Names.{NameValue, lower}
use Rattle.dnw_name_form.specs.LabelOrder.{octets_cmp}
use Rattle.dnw_name_order.specs.Order.{canonical, flags_cmp, labels_cmp, labels_cmp_case, labels_eq, name_cmp, name_cmp_case, name_eq, name_eq_case, name_hash_input}

abbrev pub flags_total : IsTotalOrder flags_cmp
flags_total = on_total (λ n. n.is_fqdn) bool_cmp_total

abbrev pub name_cmp_total : IsTotalOrder name_cmp
name_cmp_total = then_total flags_total (on_total (λ n. n.labels) (on_total canonical (lists_total (lists_total nat_cmp_total))))

abbrev pub name_cmp_case_total : IsTotalOrder name_cmp_case
name_cmp_case_total = then_total flags_total (on_total (λ n. n.labels) (on_total reverse (lists_total (lists_total nat_cmp_total))))

abbrev pub name_eq_equiv : IsEquivalence name_eq
name_eq_equiv = and_equiv (eq_by_cmp_equiv flags_total) (on_equiv (λ n. lower n.labels) (lists_equiv (lists_equiv nat_eq_equiv)))

abbrev pub name_eq_case_equiv : IsEquivalence name_eq_case
name_eq_case_equiv = and_equiv (eq_by_cmp_equiv flags_total) (on_equiv (λ n. n.labels) (lists_equiv (lists_equiv nat_eq_equiv)))

-- a test of labels says whether they are the same
labels_Decides : (xs ys : List (List ℕ)) → Decides (labels_eq xs ys) (xs ≡ ys)
labels_Decides = pointwise_decides (pointwise_decides unsigned_Decides)

unreversed : (xs ys : List (List ℕ)) → reverse xs ≡ reverse ys → xs ≡ ys
unreversed xs ys e = sym (reverse-reverse xs) ∙ ap reverse e ∙ reverse-reverse ys

-- lower case first, or the last label first: it is the same
pub lowered_last : (ls : List (List ℕ)) → canonical ls ≡ reverse (lower ls)
lowered_last [] = refl
lowered_last (l ∷ ls) =
    ap lower (reverse-append (l ∷ []) ls) ∙ map-append (map to_ascii_lowercase) (reverse ls) (l ∷ [])
    ∙ ap (λ (rest : List (List ℕ)). rest ++ map to_ascii_lowercase l ∷ []) (lowered_last ls)
    ∙ sym (reverse-append (map to_ascii_lowercase l ∷ []) (lower ls))

-- labels are the same from either end
canonical_Decides : (xs ys : List (List ℕ)) → Decides (labels_eq (canonical xs) (canonical ys)) (lower xs ≡ lower ys)
canonical_Decides xs ys =
    let test = labels_Decides (canonical xs) (canonical ys) in (
      λ yes. unreversed (lower xs) (lower ys) (sym (lowered_last xs) ∙ test.0 yes ∙ lowered_last ys),
      λ same. test.1 (lowered_last xs ∙ ap reverse same ∙ sym (lowered_last ys)),
    )

reversed_Decides : (xs ys : List (List ℕ)) → Decides (labels_eq (reverse xs) (reverse ys)) (xs ≡ ys)
reversed_Decides xs ys =
    let test = labels_Decides (reverse xs) (reverse ys) in
    (λ yes. unreversed xs ys (test.0 yes), λ same. test.1 (ap reverse same))

octets_ties : (xs ys : List (List ℕ)) → labels_eq xs ys ≡ eq_by_cmp (slice_cmp octets_cmp) xs ys
octets_ties = lists_ties octets_cmp (lists_ties nat_cmp unsigned_ties)

-- names are equal if they compare as equal
pub name_ties : (x y : NameValue) → name_eq x y ≡ eq_by_cmp name_cmp x y
name_ties x y =
    both_tied (eq_by_cmp flags_cmp x y) (labels_eq (lower x.labels) (lower y.labels)) (flags_cmp x y) (labels_cmp x.labels y.labels) refl
    (one_answer (labels_eq (lower x.labels) (lower y.labels)) (labels_eq (canonical x.labels) (canonical y.labels))
    (labels_Decides (lower x.labels) (lower y.labels)) (canonical_Decides x.labels y.labels)
    ∙ octets_ties (canonical x.labels) (canonical y.labels))

pub name_case_ties : (x y : NameValue) → name_eq_case x y ≡ eq_by_cmp name_cmp_case x y
name_case_ties x y =
    both_tied (eq_by_cmp flags_cmp x y) (labels_eq x.labels y.labels) (flags_cmp x y) (labels_cmp_case x.labels y.labels) refl
    (one_answer (labels_eq x.labels y.labels) (labels_eq (reverse x.labels) (reverse y.labels))
    (labels_Decides x.labels y.labels) (reversed_Decides x.labels y.labels)
    ∙ octets_ties (reverse x.labels) (reverse y.labels))

same_flag : (a b : Bool) → eq_by_cmp bool_cmp a b ≡ true → a ≡ b
same_flag false false e = refl
same_flag false true e = absurd (true≢false (sym e))
same_flag true false e = absurd (true≢false (sym e))
same_flag true true e = refl

flag_tied : (a b : Bool) → a ≡ b → eq_by_cmp bool_cmp a b ≡ true
flag_tied false false e = refl
flag_tied false true e = absurd (true≢false (sym e))
flag_tied true false e = absurd (true≢false e)
flag_tied true true e = refl

-- what names that are equal have in common
pub name_eq_parts : (x y : NameValue) → name_eq x y ≡ true → (x.is_fqdn ≡ y.is_fqdn) × (lower x.labels ≡ lower y.labels)
name_eq_parts x y e =
    let labels = labels_eq (lower x.labels) (lower y.labels) in (
      same_flag x.is_fqdn y.is_fqdn (first_so (eq_by_cmp flags_cmp x y) labels e),
      (labels_Decides (lower x.labels) (lower y.labels)).0 (second_so (eq_by_cmp flags_cmp x y) labels e),
    )

pub name_eq_case_parts : (x y : NameValue) → name_eq_case x y ≡ true → (x.is_fqdn ≡ y.is_fqdn) × (x.labels ≡ y.labels)
name_eq_case_parts x y e =
    let labels = labels_eq x.labels y.labels in (
      same_flag x.is_fqdn y.is_fqdn (first_so (eq_by_cmp flags_cmp x y) labels e),
      (labels_Decides x.labels y.labels).0 (second_so (eq_by_cmp flags_cmp x y) labels e),
    )

-- equal names are fed to a hasher alike
pub name_hash_alike : (x y : NameValue) → IsTrue (name_eq x y) → name_hash_input x ≡ name_hash_input y
name_hash_alike x y e = let (flag, labels) = name_eq_parts x y e in rw (flag, labels) refl

pub name_case_hash_alike : (x y : NameValue) → IsTrue (name_eq_case x y) → name_hash_input x ≡ name_hash_input y
name_case_hash_alike x y e = let (flag, labels) = name_eq_case_parts x y e in rw (flag, labels) refl

-- partial comparison is the total one
abbrev pub name_order : IsPartialOrder name_eq (as_partial_cmp name_cmp)
name_order = po name_cmp_total name_ties

abbrev pub name_case_order : IsPartialOrder name_eq_case (as_partial_cmp name_cmp_case)
name_case_order = po name_cmp_case_total name_case_ties

-- a test of lowered labels tells whether names are equal, if their flags are
pub name_eq_test : (x y : NameValue) (test : Bool) → x.is_fqdn ≡ y.is_fqdn → ((test ≡ true) ↔ (lower x.labels ≡ lower y.labels)) → test ≡ name_eq x y
name_eq_test x y test flags says =
    rw (flag_tied x.is_fqdn y.is_fqdn flags) (one_answer test (labels_eq (lower x.labels) (lower y.labels)) says (labels_Decides (lower x.labels) (lower y.labels)))
