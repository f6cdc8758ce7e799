-- Data that are appended to a list follow the others, and those that are cut off its front are the first.
use Rattle.std.proofs.Common.{◌≡◌, ◌↔◌, ◌==◌, ℕ, ◌+◌, ◌-◌, ◌≤◌, IsTrue, List, [], ◌∷◌, ◌++◌, length, take, drop, refl, sym, ap, ◌∙◌, subst, append_assoc, arith, rules}
use Rattle.std.proofs.lemmas.List.{append-nil, drop-append-le, length-append, length-drop, length-take-le, map-append, nil_from_length, take-append-le}
use Rattle.std.proofs.lemmas.List.Elements.{All-nil, All-push}
use Rattle.std.proofs.Math.Seq.{take-length}
use Rattle.std.specs.List.{AllByRecursion}
use Rattle.std.specs.Borrow.{Bor}
use Rattle.std.specs.Prelude.{Bool, true, false, MatchBool, ◌<◌}
use Rattle.dnw_base.specs.Limits.{max_message}
use Rattle.dnw_signed.specs.Inside.Going.{AreShort, all_octets}
use Rattle.dnw_signed.specs.Inside.Listing.{AreCut, TakesData, HoldsData, cut, data_of, total}
use Rattle.dnw_signed.specs.declared.data_list.DataList.{DataList}

cut_on : (octets more sizes : List ℕ) → length octets ≡ total sizes → cut (octets ++ more) (sizes ++ length more ∷ []) ≡ cut octets sizes ++ more ∷ []
cut_on octets more [] fits =
    rw (nil_from_length octets fits) (ap (λ (x : List ℕ). x ∷ []) (take-length more))
cut_on octets more (size ∷ sizes) fits =
    let le : size ≤ length octets = omega (arith, fits) in
    ap (λ (x : List ℕ). x ∷ cut (drop size (octets ++ more)) (sizes ++ length more ∷ [])) (take-append-le size octets more le)
    ∙ ap (λ (x : List ℕ). take size octets ∷ cut x (sizes ++ length more ∷ [])) (drop-append-le size octets more le)
    ∙ ap (λ xs. take size octets ∷ xs) (cut_on (drop size octets) more sizes (omega (arith, fits, length-drop size octets)))

total_on : (sizes : List ℕ) (size : ℕ) → total (sizes ++ size ∷ []) ≡ total sizes + size
total_on [] size = omega arith
total_on (first ∷ sizes) size = omega (arith, total_on sizes size)

all_on : (sizes : List ℕ) (size : ℕ) → AllByRecursion (λ n. n ≤ max_message) sizes → size ≤ max_message → AllByRecursion (λ n. n ≤ max_message) (sizes ++ size ∷ [])
all_on [] size all one = (one, tt)
all_on (first ∷ sizes) size (is, all) one = (is, all_on sizes size all one)

pub grown : (before after : DataList) (more : List ℕ) → HoldsData before → after.octets.items ≡ before.octets.items ++ more → length more ≤ max_message
    → after.sizes.items ≡ before.sizes.items ++ length more ∷ [] → HoldsData after × (data_of after ≡ data_of before ++ more ∷ [])
grown before after more (whole, short) octets_are fits sizes_are =
    rw (octets_are, sizes_are) (
      (
        omega (arith, whole, length-append before.octets.items more, total_on before.sizes.items (length more)),
        all_on before.sizes.items (length more) short fits,
      ),
      cut_on before.octets.items more before.sizes.items whole,
    )

-- Slices of the first data are there, and the others are still to be cut.
pub record IsCutting (list : DataList) (octets sizes : List ℕ) (slices : List (Bor (List ℕ))) : Type 0 where
  pub rest : all_octets slices ++ cut octets sizes ≡ data_of list
  pub left : AreCut octets sizes
  pub short : AreShort slices

pub cut_one : {list : DataList} {octets sizes others : List ℕ} {size : ℕ} {slices : List (Bor (List ℕ))} (own : Bor (List ℕ)) (rest : List ℕ)
    → IsCutting list octets sizes slices → sizes ≡ size ∷ others → own.now ≡ take size octets → rest ≡ drop size octets → IsCutting list rest others (slices ++ own ∷ [])
cut_one {list} {octets} {sizes} {others} {size} {slices} own rest c is own_is rest_is =
    let (whole, short) = subst (AreCut octets) is c.left in
    let le : size ≤ length octets = omega (arith, whole) in
    record {
      rest = ap (λ (xs : List (List ℕ)). xs ++ cut rest others) (map-append (λ (x : Bor (List ℕ)). x.now) slices (own ∷ []))
          ∙ append_assoc (all_octets slices) (own.now ∷ []) (cut rest others)
          ∙ rw (own_is, rest_is) (ap (λ xs. all_octets slices ++ cut octets xs) (sym is) ∙ c.rest);
      left = rw rest_is (omega (arith, whole, length-drop size octets), short.1);
      short = All-push (λ (x : Bor (List ℕ)). length x.now ≤ max_message) slices own c.short (omega (arith, ap length own_is, length-take-le size octets le, short.0));
    }

pub fits_next : {list : DataList} {octets sizes others : List ℕ} {size : ℕ} {slices : List (Bor (List ℕ))} → IsCutting list octets sizes slices
    → sizes ≡ size ∷ others → size ≤ length octets
fits_next {list} {octets} c is = omega (arith, (subst (AreCut octets) is c.left).0)

pub starts_cutting : (list : DataList) (slices : List (Bor (List ℕ))) → HoldsData list → slices ≡ [] → IsCutting list list.octets.items list.sizes.items slices
starts_cutting list slices listed none = rw none (record { rest = refl; left = listed; short = All-nil (λ (x : Bor (List ℕ)). length x.now ≤ max_message) })

pub all_cut : {list : DataList} {octets : List ℕ} {slices : List (Bor (List ℕ))} (sizes : List ℕ) → length sizes ≡ 0 → IsCutting list octets sizes slices
    → all_octets slices ≡ data_of list
all_cut {slices = slices} [] none c = sym (append-nil (all_octets slices)) ∙ c.rest
all_cut (size ∷ sizes) none c = absurd (omega (arith, none))

pub no_data : (octets sizes : List ℕ) → IsTrue (length sizes == 0) ↔ (cut octets sizes ≡ [])
no_data octets [] = (λ h. refl, λ h. search rules)
no_data octets (size ∷ sizes) = (λ h. absurd (search (rules, h)), λ h. absurd (omega (arith, ap length h)))

-- data that were put at the end of the buffer are ended
pub ended : (fits : Bool) (before after : DataList) (more : List ℕ) (start : ℕ) → HoldsData before → start ≡ length before.octets.items
    → after.octets.items ≡ before.octets.items ++ more
    → MatchBool fits ((length after.octets.items - start ≤ max_message) × (after.sizes.items ≡ before.sizes.items ++ (length after.octets.items - start) ∷ []))
    (max_message < length after.octets.items - start) → TakesData fits before more after
ended true before after more start listed start_is octets_are (fits, sizes_are) =
    let size : length after.octets.items - start ≡ length more = omega (arith, start_is, ap length octets_are, length-append before.octets.items more) in
    let short : length more ≤ max_message = omega (arith, size, fits) in
    let (now, is) = grown before after more listed octets_are short (sizes_are ∙ ap (λ n. before.sizes.items ++ n ∷ []) size) in
    (short, now, is)
ended false before after more start listed start_is octets_are long =
    omega (arith, long, start_is, ap length octets_are, length-append before.octets.items more)
