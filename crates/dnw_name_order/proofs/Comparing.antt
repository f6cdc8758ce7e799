-- The last labels of a list, orders of lists, and labels in lower case.
use Rattle.std.proofs.Common.{◌≡◌, ◌↔◌, ℕ, zero, suc, ◌-◌, ◌<◌, ◌≤◌, List, [], ◌∷◌, ◌++◌, length, map, take, drop, refl, sym, ap, ◌∙◌, arith, length-append}
use Rattle.std.specs.Char.{to_ascii_lowercase}
use Rattle.std.specs.Cmp.Lexicographic.{slice_cmp}
use Rattle.std.specs.Ordering.{ordering_then, nat_cmp}
use Rattle.std.specs.declared.cmp.Ordering.{Ordering}
use Rattle.std.specs.declared.cmp.Ordering.TheVariants.{Less, Equal, Greater}
use Rattle.std.proofs.lemmas.List.{drop_at, length-map, take-append-drop}
use Rattle.dnw_base.specs.Names.{encoded_size, lower}
use Rattle.dnw_name_order.specs.Order.{IsZoneOf}
use Rattle.dnw_base.proofs.Wires.{encoded_size_cons}
use Rattle.dnw_name_form.proofs.LowerWires.{encoded_size_lower}
use Rattle.dnw_name_form.specs.LabelOrder.{octets_cmp, octet_cmp_ignore_case}
use Rattle.dnw_name_form.proofs.LabelOrders.{slice_cmp_on}

-- lower case keeps the size
pub lower_size : (a b : List (List ℕ)) → lower a ≡ lower b → encoded_size a ≡ encoded_size b
lower_size a b same = sym (encoded_size_lower a) ∙ ap encoded_size same ∙ encoded_size_lower b

-- the last labels are as many as the zone has
length_lower : (ls : List (List ℕ)) → length (lower ls) ≡ length ls
length_lower ls = length-map ls (map to_ascii_lowercase)

pub IsZoneOf_last : (zone ls : List (List ℕ)) → IsZoneOf zone ls ↔ (lower (drop (length ls - length zone) ls) ≡ lower zone)
IsZoneOf_last zone ls = (
  λ (front, rest, whole, same).
      let count : length rest ≡ length zone = sym (length_lower rest) ∙ ap length same ∙ length_lower zone in
      let passed : length front ≡ length ls - length zone = omega (arith, ap length whole, length-append front rest, count) in
      ap lower (ap (drop (length ls - length zone)) whole ∙ drop_at front rest (length ls - length zone) passed) ∙ same,
  λ same. (take (length ls - length zone) ls, drop (length ls - length zone) ls, sym (take-append-drop (length ls - length zone) ls), same),
)

-- labels that others end in are no longer
encoded_size_suffix : (front rest : List (List ℕ)) → encoded_size rest ≤ encoded_size (front ++ rest)
encoded_size_suffix [] rest = omega arith
encoded_size_suffix (l ∷ front) rest = omega (arith, encoded_size_cons l (front ++ rest), encoded_size_suffix front rest)

-- ---- orders of lists

pub then_assoc : (a b c : Ordering) → ordering_then (ordering_then a b) c ≡ ordering_then a (ordering_then b c)
then_assoc Less b c = refl
then_assoc Equal b c = refl
then_assoc Greater b c = refl

pub none_before : {A : Type 0} (R : A → A → Ordering) (us : List A) → 0 < length us → slice_cmp R [] us ≡ Less
none_before R [] some = absurd (omega (arith, some))
none_before R (u ∷ us) some = refl

pub some_after : {A : Type 0} (R : A → A → Ordering) (us : List A) → 0 < length us → slice_cmp R us [] ≡ Greater
some_after R [] some = absurd (omega (arith, some))
some_after R (u ∷ us) some = refl

-- what two lists have in common at the front decides nothing
pub slice_cmp_passed : {A : Type 0} (R : A → A → Ordering) → ((a : A) → R a a ≡ Equal) → (n : ℕ) (xs ys : List A) → take n xs ≡ take n ys
    → slice_cmp R xs ys ≡ slice_cmp R (drop n xs) (drop n ys)
slice_cmp_passed R same zero xs ys e = refl
slice_cmp_passed R same (suc n) [] [] e = refl
slice_cmp_passed R same (suc n) [] (y ∷ ys) e = absurd cc
slice_cmp_passed R same (suc n) (x ∷ xs) [] e = absurd cc
slice_cmp_passed R same (suc n) (x ∷ xs) (y ∷ ys) e =
    let first : x ≡ y = cc in
    let others : take n xs ≡ take n ys = cc in
    rw (first, same y) (slice_cmp_passed R same n xs ys others)

-- labels that are no longer than the last ones of theirs are these
pub no_front : (front rest ls : List (List ℕ)) → ls ≡ front ++ rest → encoded_size ls ≤ encoded_size rest → ls ≡ rest
no_front [] rest ls e le = e
no_front (l ∷ front) rest ls e le = absurd (omega (arith, ap encoded_size e, encoded_size_cons l (front ++ rest), encoded_size_suffix front rest, le))

-- labels that are longer than their last ones keep these when the first is passed
pub past_first : (between rest ls : List (List ℕ)) (l : List ℕ) (more : List (List ℕ)) → ls ≡ between ++ rest → ls ≡ l ∷ more → encoded_size rest < encoded_size ls
    → (after : List (List ℕ)) × (more ≡ after ++ rest)
past_first [] rest ls l more e f lt = absurd (omega (arith, ap encoded_size e, lt))
past_first (m ∷ between) rest ls l more e f lt =
    let both : l ∷ more ≡ m ∷ (between ++ rest) = sym f ∙ e in
    (between, let same : more ≡ between ++ rest = cc in same)

-- octets that are compared in lower case are those of the lowered labels
pub slice_cmp_lowered : (xs ys : List (List ℕ)) → slice_cmp (slice_cmp octet_cmp_ignore_case) xs ys ≡ slice_cmp octets_cmp (lower xs) (lower ys)
slice_cmp_lowered [] [] = refl
slice_cmp_lowered [] (y ∷ ys) = refl
slice_cmp_lowered (x ∷ xs) [] = refl
slice_cmp_lowered (x ∷ xs) (y ∷ ys) =
    ap (λ (first : Ordering). ordering_then first (slice_cmp (slice_cmp octet_cmp_ignore_case) xs ys)) (slice_cmp_on to_ascii_lowercase nat_cmp x y)
    ∙ ap (ordering_then (octets_cmp (map to_ascii_lowercase x) (map to_ascii_lowercase y))) (slice_cmp_lowered xs ys)
