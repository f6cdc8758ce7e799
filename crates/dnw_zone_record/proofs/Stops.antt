-- Octets that are looked at together.
use Rattle.std.proofs.Common.{◌≡◌, ◌≢◌, ℕ, zero, suc, ◌+◌, ◌-◌, ◌*◌, ◌/◌, ◌^◌, ◌%◌, ◌≤◌, ◌<◌, ◌==◌, Bool, true, false, not, cond, List, [], ◌∷◌, map, length, take, drop, get_or, replicate, bit_and, refl, ap, ap₂, ◌∙◌, arith, inl, inr, w8, Fits}
use Rattle.std.specs.List.{prefix_len}
use Rattle.std.specs.Simd.Lanes.{mask_l}
use Rattle.std.proofs.lemmas.Bool.{agree_below, agree_below_at, cases_Bool}
use Rattle.std.proofs.lemmas.List.{length-drop, length-map, length-take-le, take_all}
use Rattle.std.proofs.lemmas.Nat.{and_le_r}
use Rattle.std.proofs.lemmas.Simd.{Each1-all, Each1-zip2, Each2-splat, SwzOk, SwzOk-from_below, length-zip2, mask_l-mod, swz_l, tops_compared, trailing_mask_l, zip2_splat}
use lib.Count.{count_trailing_zeros}
use lib.Lanes.{top, zip2, Each1}
use mir.Val.{zeroes}
use Rattle.dnw_zone_data.proofs.Lanes.{none_stops, pass, run, Passed}
use Rattle.dnw_zone_record.specs.declared.scan.Place.{Place}
use Rattle.dnw_zone_record.specs.Lines.{is_kept, kept_len}
use Rattle.dnw_zone_record.specs.Inside.Stops.{is_listed, is_stop}

-- ---- the octets that a table has

low_below : (c : ℕ) → bit_and c 15 < 16
low_below c = omega (arith, and_le_r c 15)

pub places_fit : (lanes : List ℕ) → length lanes ≡ 16 → SwzOk w8 16 16 0 (zip2 bit_and lanes (replicate 16 15))
places_fit lanes size =
    SwzOk-from_below w8 16 1 16 0 (zip2 bit_and lanes (replicate 16 15)) refl (omega (arith, length-zip2 bit_and lanes (replicate 16 15) size))
    (Each1-zip2 bit_and (λ j. j < 16) lanes (replicate 16 15) (Each2-splat (λ a b. bit_and a b < 16) lanes 16 15 (Each1-all (λ a. bit_and a 15 < 16) low_below lanes)))

abbrev same : ℕ → ℕ → Bool
same a b = a == b

one_looked_up : (table : List ℕ) (c i j : ℕ) → i < 16 → j < 16
    → same c (cond (zeroes 16 w8 j) 0 (get_or table (16 * (i / 16) + j) 0)) ≡ same c (get_or table j 0)
one_looked_up table c i j few low =
    let within : zeroes 16 w8 j ≡ false = grind (arith) in
    let first : 16 * (i / 16) + j ≡ j = omega (arith, few) in
    ap (λ (b : Bool). same c (cond b 0 (get_or table (16 * (i / 16) + j) 0))) within ∙ ap (λ (k : ℕ). same c (get_or table k 0)) first

looked_up : (table lanes : List ℕ) (i : ℕ) → i + length lanes ≤ 16
    → zip2 same lanes (swz_l w8 16 table i (map (λ (c : ℕ). bit_and c 15) lanes)) ≡ map (is_listed table) lanes
looked_up table [] i few = refl
looked_up table (c ∷ cs) i few =
    ap₂ (λ x l. x ∷ l) (one_looked_up table c i (bit_and c 15) (omega (arith, few)) (low_below c)) (looked_up table cs (suc i) (omega (arith, few)))

pub listed_mask : (table lanes : List ℕ) → length lanes ≡ 16
    → mask_l (map (top 7) (zip2 (λ (a b : ℕ). cond (a == b) 255 0) lanes (swz_l w8 16 table 0 (zip2 bit_and lanes (replicate 16 15))))) % 2 ^ 64
    ≡ mask_l (map (is_listed table) lanes)
listed_mask table lanes size =
    ap (λ l. mask_l l % 2 ^ 64) (
    tops_compared w8 same lanes (swz_l w8 16 table 0 (zip2 bit_and lanes (replicate 16 15)))
    ∙ ap (λ (js : List ℕ). zip2 same lanes (swz_l w8 16 table 0 js)) (zip2_splat bit_and lanes 16 15 size)
    ∙ looked_up table lanes 0 (omega (arith, size))
    )
    ∙ mask_l-mod (map (is_listed table) lanes) 64 (omega (arith, length-map lanes (is_listed table), size))

-- the table has each octet that is not kept, and no other
pub all_listed : (table : List ℕ) (place : Place) → agree_below (is_listed table) (is_stop place) 256 ≡ true → (lanes : List ℕ) → Each1 (Fits w8) lanes
    → map (is_listed table) lanes ≡ map (is_stop place) lanes
all_listed table place agree [] fits = refl
all_listed table place agree (c ∷ cs) fits =
    ap₂ (λ x l. x ∷ l) (agree_below_at (is_listed table) (is_stop place) 256 c agree fits.0.fits) (all_listed table place agree cs fits.1)

-- ---- up to the first that is not kept

first_stop : (place : Place) (k : ℕ) (xs : List ℕ) → 0 < mask_l (map (is_stop place) (take k xs))
    → (prefix_len (λ c. not (is_stop place c)) (take k xs) ≡ kept_len place xs) × (kept_len place xs < length xs)
first_stop place zero xs some = absurd (omega (arith, some))
first_stop place (suc k) [] some = absurd (omega (arith, some))
first_stop place (suc k) (c ∷ cs) some = elim (cases_Bool (is_kept place c)) [
  | inl is ↦
      let more : 0 < 0 + 2 * mask_l (map (is_stop place) (take k cs)) = rw is at some in
      let (first, within) = first_stop place k cs (omega (arith, more)) in
      rw is (omega (arith, first), omega (arith, within))
  | inr is ↦ rw is (omega arith, omega arith)
]

-- the lowest bit of a mask stands for the first
pub stop_at : (place : Place) (xs : List ℕ) (mask : ℕ) → 16 ≤ length xs → mask ≡ mask_l (map (is_stop place) (take 16 xs)) → mask ≢ 0
    → (count_trailing_zeros 64 mask ≡ kept_len place xs) × (kept_len place xs < length xs)
stop_at place xs mask size is some =
    let few = length-take-le 16 xs size in
    let (first, within) = first_stop place 16 xs (omega (arith, is, some)) in
    (ap (count_trailing_zeros 64) is ∙ trailing_mask_l (is_stop place) 64 (take 16 xs) (omega (arith, few)) (omega (arith, is, some)) ∙ first, within)

pub stopped : (place : Place) (all left : List ℕ) (mask : ℕ) → 16 ≤ length left → mask ≡ mask_l (map (is_stop place) (take 16 left)) → mask ≢ 0
    → Passed (kept_len place) all left
    → kept_len place all + length (take (length left - count_trailing_zeros 64 mask) (drop (count_trailing_zeros 64 mask) left)) ≡ length all
stopped place all left mask size is some (within, so) =
    let n = count_trailing_zeros 64 mask in
    let (first, below) = stop_at place left mask size is some in
    let rest : take (length left - n) (drop n left) ≡ drop n left = take_all (length left - n) (drop n left) (omega (arith, length-drop n left)) in
    rw rest (omega (arith, length-drop n left, within, so, first, below))

kept_more : (place : Place) (c : ℕ) (cs : List ℕ) → is_stop place c ≡ false → kept_len place (c ∷ cs) ≡ 1 + kept_len place cs
kept_more place c cs is = elim (cases_Bool (is_kept place c)) [
  | inl kept ↦ rw kept (omega arith)
  | inr none ↦ absurd (let one : true ≡ false = rw none at is in cc)
]

pub passed : (place : Place) (all left : List ℕ) (mask : ℕ) → 16 ≤ length left → mask ≡ mask_l (map (is_stop place) (take 16 left)) → mask ≡ 0
    → Passed (kept_len place) all left → Passed (kept_len place) all (take (length left - 16) (drop 16 left))
passed place all left mask size is none so =
    pass (kept_len place) 16 all left size (run (is_stop place) (kept_len place) (kept_more place) 16 16 left (none_stops (is_stop place) 16 left mask size is none)) so
