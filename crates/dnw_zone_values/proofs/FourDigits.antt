-- Four digits at once: a sum of numbers in the tables of their places.
use Rattle.std.proofs.Common.{◌≡◌, ℕ, ◌+◌, ◌*◌, ◌<◌, ◌≤◌, ◌-◌, ◌==◌, ◌&&◌, Bool, List, ◌∷◌, take, drop, sym, map, get_or, [], length, slice_index, true, false, inl, inr, refl, ap, ◌∙◌, arith}
use Rattle.std.specs.Prelude.{Option, Some, None, IfSome, nat_lt, nat_le, if◌then◌else◌}
use Rattle.std.specs.List.{list_all, range_with_len}
use Rattle.std.proofs.lemmas.Bool.{and_parts, cases_lt, eqb-true, le-ltb, leb-true, lt-ltb}
use Rattle.std.proofs.lemmas.List.{get_or-map, take_all}
use Rattle.std.proofs.lemmas.List.Sums.{AllPass-from_list_all}
use Rattle.std.proofs.lemmas.List.FromFn.{get_or-map-range_with_len}
use Rattle.hex.specs.Hex.{hex_digit_value}
use Rattle.base64.specs.Engines.{standard}
use Rattle.dnw_zone_values.specs.Base32.{base32_value, is_base32}
use Rattle.dnw_zone_values.specs.Inside.Digits.{base32_digit_value, base64_digit_value, in_place, number_of_four}

pub value_below : (c : ℕ) → base32_value c < 32
value_below c = grind arith

below_if : (b : Bool) (n : ℕ) → n < 32 → IfSome (if b then Some n else None) (λ n. n < 32)
below_if true n lt = lt
below_if false n lt = tt

below_test : (n : ℕ) → IfSome (if nat_lt n 64 then Some n else None) (λ n. n < 64)
below_test n = elim (cases_lt n 64) [
  | inl lt ↦ rw (lt-ltb n 64 lt) lt
  | inr ge ↦ rw (le-ltb n 64 ge) tt
]

-- each table has what its place says, and no more than this
pub in_table : (tables : List (List ℕ)) (places : List ℕ) (f : ℕ → ℕ → ℕ) (k c : ℕ) → tables ≡ map (λ u. map (f u) (range_with_len 0 256)) places → k < length places → c < 256
    → get_or (get_or tables k []) c 0 ≡ f (get_or places k 0) c
in_table tables places f k c is inside lt =
    ap (λ (ts : List (List ℕ)). get_or (get_or ts k []) c 0) is
    ∙ ap (λ (t : List ℕ). get_or t c 0) (get_or-map (λ u. map (f u) (range_with_len 0 256)) places k 0 [] inside)
    ∙ get_or-map-range_with_len (f (get_or places k 0)) 0 256 c c 0 (omega arith) (omega arith)

abbrev pub is_most : List ℕ → Bool
is_most t = (length t == 256) && list_all (λ n. nat_le n 16777216) t

pub most_in_table : (tables : List (List ℕ)) (k c : ℕ) → list_all is_most tables ≡ true → k < length tables → c < 256 → get_or (get_or tables k []) c 0 ≤ 16777216
most_in_table tables k c all inside lt =
    let t : List ℕ = get_or tables k [] in
    let parts = and_parts (length t == 256) (list_all (λ n. nat_le n 16777216) t) (AllPass-from_list_all is_most tables all k [] inside) in
    leb-true (get_or t c 0) 16777216 (AllPass-from_list_all (λ n. nat_le n 16777216) t parts.1 c 0 (omega (arith, eqb-true (length t) 256 parts.0)))

pub hexadecimal_below : (c : ℕ) → IfSome (hex_digit_value c) (λ n. n < 16)
hexadecimal_below c = grind arith

pub base32_below : (c : ℕ) → IfSome (base32_digit_value c) (λ n. n < 32)
base32_below c = below_if (is_base32 c) (base32_value c) (value_below c)

pub base64_below : (c : ℕ) → IfSome (base64_digit_value c) (λ n. n < 64)
base64_below c = below_test (slice_index standard.decode_table c)

-- the sum is that many if there is another character than a digit
pub sum_of_four : (u v w base : ℕ) → ((a b c d : ℕ) → a < base → b < base → c < base → d < base → a * u + b * v + c * w + d < 16777216)
    → (x y z t : Option ℕ) → IfSome x (λ n. n < base) → IfSome y (λ n. n < base) → IfSome z (λ n. n < base) → IfSome t (λ n. n < base)
    → (sum : ℕ) → sum ≡ in_place u x + in_place v y + in_place w z + in_place 1 t
    → (if nat_lt sum 16777216 then Some sum else None) ≡ number_of_four u v w x y z t
sum_of_four u v w base few (Some a) (Some b) (Some c) (Some d) ha hb hc hd sum is =
    let e : sum ≡ a * u + b * v + c * w + d = omega (arith, is) in
    rw (e, lt-ltb (a * u + b * v + c * w + d) 16777216 (few a b c d ha hb hc hd)) refl
sum_of_four u v w base few None y z t ha hb hc hd sum is = rw (le-ltb sum 16777216 (omega (arith, is))) refl
sum_of_four u v w base few (Some a) None z t ha hb hc hd sum is = rw (le-ltb sum 16777216 (omega (arith, is))) refl
sum_of_four u v w base few (Some a) (Some b) None t ha hb hc hd sum is = rw (le-ltb sum 16777216 (omega (arith, is))) refl
sum_of_four u v w base few (Some a) (Some b) (Some c) None ha hb hc hd sum is = rw (le-ltb sum 16777216 (omega (arith, is))) refl

-- a slice that begins with four
pub four_parts : (xs : List ℕ) (n : ℕ) → 4 ≤ length xs → n ≡ length xs - 4 → xs ≡ get_or xs 0 0 ∷ get_or xs 1 0 ∷ get_or xs 2 0 ∷ get_or xs 3 0 ∷ take n (drop 4 xs)
four_parts [] n few is = absurd (omega arith)
four_parts (a ∷ []) n few is = absurd (omega arith)
four_parts (a ∷ b ∷ []) n few is = absurd (omega arith)
four_parts (a ∷ b ∷ c ∷ []) n few is = absurd (omega arith)
four_parts (a ∷ b ∷ c ∷ d ∷ xs) n few is = ap (λ (ys : List ℕ). a ∷ b ∷ c ∷ d ∷ ys) (sym (take_all n xs (omega (arith, is))))
