-- What is in lower case stays so, and when names are the same.
use Rattle.std.proofs.Common.{◌≡◌, ◌↔◌, ℕ, Bool, true, List, [], ◌∷◌, map, refl, sym, ap, ◌∙◌, subst, rules, tests}
use Rattle.std.specs.Bool.{Decides, one_answer}
use Rattle.std.specs.Char.{to_ascii_lowercase}
use Rattle.dnw_base.specs.Names.{NameValue, lower}
use Rattle.dnw_name_order.specs.Order.{name_eq_case}
use Rattle.dnw_name_order.specs.OrderLaws.{name_eq_case_equiv, name_eq_case_parts}
use Rattle.dnw_name_zones.specs.LowerNames.{lowered, IsLower}

twice : (n : ℕ) → to_ascii_lowercase (to_ascii_lowercase n) ≡ to_ascii_lowercase n
twice n = search (rules, tests)

label_twice : (l : List ℕ) → map to_ascii_lowercase (map to_ascii_lowercase l) ≡ map to_ascii_lowercase l
label_twice [] = refl
label_twice (n ∷ l) = rw (twice n, label_twice l) refl

lower_twice : (ls : List (List ℕ)) → IsLower (lower ls)
lower_twice [] = refl
lower_twice (l ∷ ls) = rw (label_twice l, lower_twice ls) refl

pub lowered_is : (n m : NameValue) → n ≡ lowered m → IsLower n.labels
lowered_is n m same = rw same (lower_twice m.labels)

-- a fully qualified name is its labels
pub lowered_same : (n read name : NameValue) → read.is_fqdn ≡ true → n ≡ record { is_fqdn = true; labels = read.labels } → name ≡ lowered read → lowered n ≡ name
lowered_same n read name fqdn is e = ap lowered is ∙ ap (λ (b : Bool). record { is_fqdn = b; labels = lower read.labels }) (sym fqdn) ∙ sym e

same_name : (x y : NameValue) → x.is_fqdn ≡ y.is_fqdn → x.labels ≡ y.labels → x ≡ y
same_name x y flag labels =
    ap (λ (b : Bool). record { is_fqdn = b; labels = x.labels }) flag ∙ ap (λ (ls : List (List ℕ)). record { is_fqdn = y.is_fqdn; labels = ls }) labels

name_eq_case_Decides : (x y : NameValue) → Decides (name_eq_case x y) (x ≡ y)
name_eq_case_Decides x y = (
  λ yes. let (flag, labels) = name_eq_case_parts x y yes in same_name x y flag labels,
  λ same. subst (λ (n : NameValue). name_eq_case x n ≡ true) same (name_eq_case_equiv.refl x),
)

pub name_eq_case_test : (x y : NameValue) (test : Bool) → ((test ≡ true) ↔ (x ≡ y)) → test ≡ name_eq_case x y
name_eq_case_test x y test says = one_answer test (name_eq_case x y) says (name_eq_case_Decides x y)
