-- A list is checked item by item: what is left is as wrong as the whole.
use Rattle.std.specs.Option.{option_or}
use Rattle.std.proofs.Common.{◌≡◌, Bool, ℕ, zero, suc, ◌+◌, ◌≤◌, ◌==◌, true, false, Option, Some, None, List, [], ◌∷◌, length, take, drop, nat_lt, ap, ◌-◌, if◌then◌else◌, refl, sym, ◌∙◌, arith, rules, tests, length-drop}
use Rattle.std.proofs.Math.Seq.{take-length}
use Rattle.std.proofs.lemmas.Option.{none-some}
use Rattle.dnw_base.specs.declared.error.DecodeError.{DecodeError}
use Rattle.dnw_base.specs.declared.error.DecodeError.TheVariants.{InsufficientBytes}
use Rattle.dnw_data.specs.declared.kind.ListKind.{ListKind}
use Rattle.dnw_data.specs.declared.kind.ListKind.TheVariants.{Texts, Types, Params, Prefixes, Names}
use Rattle.dnw_data.specs.Inside.Checking.{Checks, IsChecked}
use Rattle.dnw_data.specs.Lists.{tag_of, count_of, item_size, item_fault, may_come, out_of_order, fault_within, list_fault}
use Rattle.dnw_data.proofs.Shaping.{name_size_some}

pub item_size_some : (kind : ListKind) (left : List ℕ) → 1 ≤ item_size kind left
item_size_some Texts left = omega arith
item_size_some Types left = omega arith
item_size_some Params left = omega arith
item_size_some Prefixes left = omega arith
item_size_some Names left = omega (arith, name_size_some left)

pub some_left : (left : List ℕ) → (length left == 0) ≡ false → 1 ≤ length left
some_left [] e = search rules
some_left (x ∷ xs) e = omega arith

pub begins : (kind : ListKind) (octets : List ℕ) → Checks kind octets octets 0
unfolding list_fault
begins kind octets = record { steps = length octets; enough = omega arith; same = refl }

pub ends : (kind : ListKind) (octets left : List ℕ) (least : ℕ) → Checks kind octets left least → length left ≡ 0 → list_fault kind octets ≡ None
ends kind octets [] least c e = sym c.same
ends kind octets (x ∷ xs) least c e = absurd (omega (arith, e))

-- the first item decides, or what follows it
at_first : (n : ℕ) (kind : ListKind) (least : ℕ) (left : List ℕ) → 1 ≤ length left → length left ≤ n
    → (m : ℕ) × (n ≡ suc m)
    × (fault_within n kind least left ≡ (if nat_lt (length left) (item_size kind left) then Some InsufficientBytes
    else if may_come kind least (tag_of kind left) (count_of kind left)
    then option_or (item_fault kind (take (item_size kind left) left)) (fault_within m kind (tag_of kind left + 1) (drop (item_size kind left) left))
    else Some (out_of_order kind)))
at_first n kind least [] some enough = absurd (omega (arith, some))
at_first zero kind least (x ∷ xs) some enough = absurd (omega (arith, enough))
at_first (suc m) kind least (x ∷ xs) some enough = (m, refl, refl)

-- what is after an item
pub rest_is : (size : ℕ) (left : List ℕ) → take (length left - size) (drop size left) ≡ drop size left
rest_is size left = ap (λ n. take n (drop size left)) (sym (length-drop size left)) ∙ take-length (drop size left)

pub goes_on : (kind : ListKind) (octets left : List ℕ) (least : ℕ) → Checks kind octets left least → 1 ≤ length left
    → (tag count size : ℕ) → tag ≡ tag_of kind left → count ≡ count_of kind left → size ≡ item_size kind left → size ≤ length left
    → may_come kind least tag count ≡ true → item_fault kind (take size left) ≡ None → Checks kind octets (take (length left - size) (drop size left)) (tag + 1)
goes_on kind octets left least c some tag count size tag_is count_is size_is whole may fine =
    let (m, is, step) = at_first c.steps kind least left some c.enough in
    let long = item_size_some kind left in
    let may = rw (tag_is, count_is) at may in
    let whole = rw size_is at whole in
    let fine = rw size_is at fine in
    let test : nat_lt (length left) (item_size kind left) ≡ false = search (rules, tests) in
    let on : fault_within m kind (tag_of kind left + 1) (drop (item_size kind left) left) ≡ list_fault kind octets =
    sym (step ∙ rw (test, may, fine) refl) ∙ c.same in
    let rest = rest_is size left in
    record {
      steps = m;
      enough = omega (arith, is, c.enough, ap length rest, length-drop size left, size_is, long);
      same = ap (λ l. fault_within m kind (tag + 1) l) rest ∙ rw (tag_is, size_is) on;
    }

-- the first item is wrong, and so the list
pub goes_wrong : (kind : ListKind) (octets left : List ℕ) (least : ℕ) (error : DecodeError) → Checks kind octets left least → 1 ≤ length left
    → (tag count size : ℕ) → tag ≡ tag_of kind left → count ≡ count_of kind left → size ≡ item_size kind left → size ≤ length left
    → may_come kind least tag count ≡ true → item_fault kind (take size left) ≡ Some error → list_fault kind octets ≡ Some error
goes_wrong kind octets left least error c some tag count size tag_is count_is size_is whole may wrong =
    let (m, is, step) = at_first c.steps kind least left some c.enough in
    let may = rw (tag_is, count_is) at may in
    let whole = rw size_is at whole in
    let wrong = rw size_is at wrong in
    let test : nat_lt (length left) (item_size kind left) ≡ false = search (rules, tests) in
    sym c.same ∙ step ∙ rw (test, may, wrong) refl

-- a list that is right is so from its start
pub is_checked : (kind : ListKind) (octets : List ℕ) → list_fault kind octets ≡ None → IsChecked kind octets
unfolding list_fault
is_checked kind octets right = record { least = 0; steps = length octets; enough = omega arith; right = right }

by_tests : (kind : ListKind) (left : List ℕ) (m least : ℕ) → 1 ≤ length left → length left ≤ m + 1 → (short may : Bool)
    → nat_lt (length left) (item_size kind left) ≡ short
    → (fault : Option DecodeError)
    → (if short then Some InsufficientBytes
    else if may then option_or fault (fault_within m kind (tag_of kind left + 1) (drop (item_size kind left) left)) else Some (out_of_order kind)) ≡ None
    → (item_size kind left ≤ length left) × IsChecked kind (drop (item_size kind left) left)
by_tests kind left m least some enough true may is fault right = absurd (none-some _ (sym right))
by_tests kind left m least some enough false false is fault right = absurd (none-some _ (sym right))
by_tests kind left m least some enough false true is (Some error) right = absurd (none-some _ (sym right))
by_tests kind left m least some enough false true is None right =
    let whole : item_size kind left ≤ length left = search (rules, tests) in (
      whole,
      record {
        least = tag_of kind left + 1;
        steps = m;
        enough = omega (arith, enough, length-drop (item_size kind left) left, item_size_some kind left);
        right = right;
      },
    )

-- the first item is whole, and the others are a list
pub first_item : (kind : ListKind) (left : List ℕ) → IsChecked kind left → 1 ≤ length left
    → (item_size kind left ≤ length left) × IsChecked kind (drop (item_size kind left) left)
first_item kind left c some =
    let (m, is, step) = at_first c.steps kind c.least left some c.enough in
    let right = sym step ∙ c.right in
    by_tests kind left m c.least some (omega (arith, is, c.enough)) (nat_lt (length left) (item_size kind left)) (may_come kind c.least (tag_of kind left) (count_of kind left)) refl
    (item_fault kind (take (item_size kind left) left)) right

-- ---- what is right after some number is right from 0

may_lower : (kind : ListKind) (least low tag count : ℕ) → low ≤ least → may_come kind least tag count ≡ true → may_come kind low tag count ≡ true
may_lower Texts least low tag count lower may = refl
may_lower Types least low tag count lower may = search (rules, tests)
may_lower Params least low tag count lower may = search (rules, tests)
may_lower Prefixes least low tag count lower may = refl
may_lower Names least low tag count lower may = refl

-- the same of what the tests on the first item decide
by_lower : (short may may' : Bool) (own fault fault' : Option DecodeError) (error : DecodeError) → (may ≡ true → may' ≡ true)
    → (fault ≡ None → fault' ≡ None)
    → (if short then Some InsufficientBytes else if may then option_or own fault else Some error) ≡ None
    → (if short then Some InsufficientBytes else if may' then option_or own fault' else Some error) ≡ None
by_lower true may may' own fault fault' error allowed rest right = right
by_lower false false may' own fault fault' error allowed rest right = absurd (none-some _ (sym right))
by_lower false true may' (Some wrong) fault fault' error allowed rest right = absurd (none-some _ (sym right))
by_lower false true may' None fault fault' error allowed rest right = rw (allowed refl) (rest right)

from_lower : (n m : ℕ) (kind : ListKind) (least low : ℕ) (left : List ℕ) → length left ≤ n → length left ≤ m → low ≤ least
    → fault_within n kind least left ≡ None → fault_within m kind low left ≡ None
from_lower n m kind least low [] long long' lower right = refl
from_lower zero m kind least low (x ∷ xs) long long' lower right = absurd (omega (arith, long))
from_lower (suc n) zero kind least low (x ∷ xs) long long' lower right = absurd (omega (arith, long'))
from_lower (suc n) (suc m) kind least low (x ∷ xs) long long' lower right =
    let left = x ∷ xs in
    let size = length-drop (item_size kind left) left in
    let some = item_size_some kind left in
    let next = tag_of kind left + 1 in
    by_lower (nat_lt (length left) (item_size kind left)) (may_come kind least (tag_of kind left) (count_of kind left)) _
    (item_fault kind (take (item_size kind left) left)) _ _ (out_of_order kind)
    (may_lower kind least low (tag_of kind left) (count_of kind left) lower)
    (from_lower n m kind next next (drop (item_size kind left) left) (omega (arith, size, some, long)) (omega (arith, size, some, long')) (omega arith)) right

pub is_right : (kind : ListKind) (left : List ℕ) → IsChecked kind left → list_fault kind left ≡ None
unfolding list_fault
is_right kind left c = from_lower c.steps (length left) kind c.least 0 left c.enough (omega arith) (omega arith) c.right
