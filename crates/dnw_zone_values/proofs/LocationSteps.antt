-- Numbers of locations, digit by digit.
use Rattle.std.proofs.Common.{◌≡◌, ◌≤◌, ◌<◌, ℕ, ◌+◌, ◌-◌, ◌*◌, ◌/◌, ◌%◌, ◌^◌, List, [], ◌∷◌, ◌++◌, length, slice_index, decimal, refl, sym, ap, ◌∙◌, arith, length-append}
use Rattle.std.specs.Str.Parse.{AllDigits, digits_value}
use Rattle.std.proofs.lemmas.Fmt.{decimal_by_steps, decimal_digit, decimal_nonempty, decimal_step, length-decimal-le_wide}
use Rattle.std.proofs.Math.Nat.{le-mul_of_pos_right, mul-le-mul_left, mul_assoc, one-le-pow, pow-le-pow_right, pow-suc}
use Rattle.std.proofs.Math.Numerals.{add-one}
use Rattle.dnw_zone_values.specs.Locations.{IsScaled, precision}

-- ---- numbers with a point

at_least : (a k : ℕ) → 1 ≤ k → a ≤ a * k
at_least a k h = le-mul_of_pos_right {m = k} a h

-- too many digits write too great a number
pub whole_too_great : (places : ℕ) (whole part : List ℕ) (n : ℕ) → (AllDigits 10 whole → 9999999999 < digits_value 10 whole) → n ≤ 9999999999
    → IsScaled places whole part n → ⊥
whole_too_great places whole part n great few (all, others, fits, e) =
    let up = at_least (digits_value 10 whole) (10 ^ places) (one-le-pow places 10 (omega arith)) in
    omega (arith, great all, few, e, up)

pub part_too_great : (places : ℕ) (whole part : List ℕ) (n : ℕ) → (AllDigits 10 part → 9999999999 < digits_value 10 part) → n ≤ 9999999999
    → IsScaled places whole part n → ⊥
part_too_great places whole part n great few (all, others, fits, e) =
    let up = at_least (digits_value 10 part) (10 ^ (places - length part)) (one-le-pow (places - length part) 10 (omega arith)) in
    omega (arith, great others, few, e, up)

-- ---- the octet of a size

first_kept : (a b : List ℕ) → 0 < length a → slice_index (a ++ b) 0 ≡ slice_index a 0
first_kept [] b some = absurd (omega arith)
first_kept (x ∷ a) b some = refl

pub precision_digit : (n : ℕ) → n < 10 → precision n ≡ 16 * n
precision_digit n h = rw (decimal_digit n h) (omega arith)

pub precision_step : (n : ℕ) → 10 ≤ n → n < 2 ^ 64 → precision n ≡ precision (n / 10) + 1
precision_step n h small =
    let some = decimal_nonempty (n / 10) (omega arith) in
    let step = decimal_step n h small in
    let first : slice_index (decimal n) 0 ≡ slice_index (decimal (n / 10)) 0 =
    ap (λ (xs : List ℕ). slice_index xs 0) step ∙ first_kept (decimal (n / 10)) ((48 + n % 10) ∷ []) some in
    let size = ap length step ∙ length-append (decimal (n / 10)) ((48 + n % 10) ∷ []) in
    omega (arith, first, size, some)

first_digit : (n : ℕ) → n < 2 ^ 64 → (0 < length (decimal n)) × (slice_index (decimal n) 0 ≤ 57)
first_digit n h =
    decimal_by_steps (λ _ ds. (0 < length ds) × (slice_index ds 0 ≤ 57)) (λ m few. (omega arith, omega arith))
    (λ m ds ten so_far. (omega (arith, length-append ds ((48 + m % 10) ∷ [])), rw (first_kept ds ((48 + m % 10) ∷ []) so_far.0) so_far.1)) n h

pub precision_few : (n : ℕ) → n < 10000000000 → precision n < 160
precision_few n h =
    let first = first_digit n (omega arith) in
    let size = length-decimal-le_wide 10 n (omega arith) (omega arith) (omega arith) in
    omega (arith, first.0, first.1, size)

-- one digit less, and one more after it
pub digit_less : (all n e : ℕ) → n < 10000000000 → 10 ≤ n → precision n + e ≡ precision all → (n / 10 < 10000000000) × (precision (n / 10) + (e + 1) ≡ precision all)
digit_less all n e few ten so_far = (omega arith, omega (arith, precision_step n ten (omega arith), so_far))

pub digits_few : (all n e : ℕ) → all < 10000000000 → precision n + e ≡ precision all → e < 160
digits_few all n e few so_far = omega (arith, precision_few all few, so_far)

-- ---- the number of an octet

pub ten_times : (m k : ℕ) → m * 10 ^ k * 10 ≡ m * 10 ^ (k + 1)
ten_times m k = mul_assoc m (10 ^ k) 10 ∙ ap (λ (x : ℕ). m * x) (sym (pow-suc 10 k) ∙ ap (λ (x : ℕ). 10 ^ x) (sym (add-one k)))

pub zeros_few : (m k e : ℕ) → m < 10 → k < e → e < 10 → m * 10 ^ k * 10 < 2 ^ 64
zeros_few m k e few below least =
    let power : 10 ^ k ≤ 10 ^ 9 = pow-le-pow_right {n = 10} (omega arith) {i = k} {j = 9} (omega arith) in
    let up : m * 10 ^ k ≤ m * 10 ^ 9 = mul-le-mul_left m power in
    omega (arith, up, few)
