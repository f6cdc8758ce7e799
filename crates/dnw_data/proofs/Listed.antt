-- Which codes windows list.
use Rattle.std.proofs.Common.{◌≡◌, ◌*◌, ◌/◌, ◌%◌, ◌-◌, ◌==◌, inl, inr, Bool, true, false, ℕ, zero, suc, ◌+◌, ◌<◌, List, [], ◌∷◌, length, take, get_or, slice_index, refl, sym, subst, arith, Contains, if◌then◌else◌}
use Rattle.std.specs.Int.{bit_at}
use Rattle.std.specs.List.{Any, flat_map}
use Rattle.std.proofs.lemmas.Bool.{cases_lt, eqb-true}
use Rattle.std.proofs.lemmas.List.{length-take, get_or-take, get_or_past, drop_more}
use Rattle.std.proofs.lemmas.List.Elements.{Contains-append_left, Contains-append_right, Contains-append_cases}
use Rattle.std.proofs.lemmas.Nat.Bits.{bit_at-zero}
use Rattle.dnw_data.specs.TypeSets.{Window, bits, bit_codes, octet_codes, octets_codes, window_codes, HasBit}
use Rattle.dnw_data.specs.SetLaws.{WindowsListBits}
use Rattle.dnw_data.proofs.Windows.{bits_next}

listed_from : {A : Type 0} (f : A → List ℕ) (xs : List A) (code : ℕ) → Contains (flat_map f xs) code → Any (λ x. Contains (f x) code) xs
listed_from f [] code (k, less, is) = absurd (omega arith)
listed_from f (x ∷ xs) code h =
    elim (Contains-append_cases (f x) (flat_map f xs) code h) [
      | inl first ↦ (0, x, omega arith, refl, first)
      | inr later ↦ let (k, y, less, is, has) = listed_from f xs code later in (suc k, y, omega arith, is, has)
    ]

listed_at : {A : Type 0} (f : A → List ℕ) (xs : List A) (code k : ℕ) (x : A) → k < length xs → get_or xs k x ≡ x → Contains (f x) code → Contains (flat_map f xs) code
listed_at f [] code k x less is has = absurd (omega arith)
listed_at f (y ∷ ys) code zero x less is has = Contains-append_left (f y) (flat_map f ys) code (subst (λ z. Contains (f z) code) (sym is) has)
listed_at f (y ∷ ys) code (suc k) x less is has = Contains-append_right (f y) (flat_map f ys) code (listed_at f ys code k x (omega arith) is has)

bit_at_lem : (bit d : ℕ) → bit < 8 → get_or bits bit d ≡ bit
bit_at_lem bit d less = let next = drop_more bits bit d less in let same = bits_next bit less in cc

-- the code of a bit of an octet, counted from the first code of the octet
record IsBit (first octet bit code : ℕ) : Type 0 where
  few : bit < 8
  code_is : code ≡ first + bit
  set : bit_at octet (7 - bit) ≡ 1

bit_from : (first octet bit code : ℕ) → bit < 8 → Contains (bit_codes first octet bit) code → IsBit first octet bit code
bit_from first octet bit code few h = cases (bit_at octet (7 - bit) == 1) refl h
  where
    cases : (b : Bool) → (bit_at octet (7 - bit) == 1) ≡ b → Contains (if b then (first + bit) ∷ [] else []) code → IsBit first octet bit code
    cases true e (zero, less, is) = record { few = few; code_is = sym is; set = eqb-true _ 1 e }
    cases true e (suc k, less, is) = absurd (omega arith)
    cases false e (k, less, is) = absurd (omega arith)

bit_there : (first octet bit code : ℕ) → IsBit first octet bit code → Contains (bit_codes first octet bit) code
bit_there first octet bit code is = rw is.set (0, omega arith, sym is.code_is)

octet_from : (first octet code : ℕ) → Contains (octet_codes first octet) code → (bit : ℕ) × IsBit first octet bit code
octet_from first octet code h =
    let (k, bit, less, is, has) = listed_from (bit_codes first octet) bits code h in
    let few : bit < 8 = omega (arith, bit_at_lem k bit less) in
    (bit, bit_from first octet bit code few has)

octet_there : (first octet bit code : ℕ) → IsBit first octet bit code → Contains (octet_codes first octet) code
octet_there first octet bit code is = listed_at (bit_codes first octet) bits code bit bit is.few (bit_at_lem bit bit is.few) (bit_there first octet bit code is)

-- the code of a bit of octets
record IsBitOf (first : ℕ) (octets : List ℕ) (i bit code : ℕ) : Type 0 where
  within : i < length octets
  bit_is : IsBit (first + 8 * i) (slice_index octets i) bit code

octets_from : (first : ℕ) (octets : List ℕ) (code : ℕ) → Contains (octets_codes first octets) code → (i : ℕ) × (bit : ℕ) × IsBitOf first octets i bit code
octets_from first [] code (k, less, is) = absurd (omega arith)
octets_from first (octet ∷ octets) code h =
    elim (Contains-append_cases (octet_codes first octet) (octets_codes (first + 8) octets) code h) [
      | inl now ↦
          let (bit, is) = octet_from first octet code now in
          (0, bit, record { within = omega arith; bit_is = record { few = is.few; code_is = omega (arith, is.code_is); set = is.set } })
      | inr later ↦
          let (i, bit, is) = octets_from (first + 8) octets code later in
          (suc i, bit, record { within = omega (arith, is.within); bit_is = record { few = is.bit_is.few; code_is = omega (arith, is.bit_is.code_is); set = is.bit_is.set } })
    ]

octets_there : (first : ℕ) (octets : List ℕ) (i bit code : ℕ) → IsBitOf first octets i bit code → Contains (octets_codes first octets) code
octets_there first [] i bit code is = absurd (omega (arith, is.within))
octets_there first (octet ∷ octets) zero bit code is =
    Contains-append_left (octet_codes first octet) (octets_codes (first + 8) octets) code
    (octet_there first octet bit code (record { few = is.bit_is.few; code_is = omega (arith, is.bit_is.code_is); set = is.bit_is.set }))
octets_there first (octet ∷ octets) (suc i) bit code is =
    Contains-append_right (octet_codes first octet) (octets_codes (first + 8) octets) code
    (octets_there (first + 8) octets i bit code (record { within = omega (arith, is.within); bit_is = record { few = is.bit_is.few; code_is = omega (arith, is.bit_is.code_is); set = is.bit_is.set } }))

window_from : (code : ℕ) (w : Window) → Contains (window_codes w) code → HasBit code w
window_from code w h =
    let (i, bit, is) = octets_from (256 * w.number) (take 32 w.octets) code h in
    let size = length-take 32 w.octets in
    let small : i < 32 = omega (arith, is.within) in
    let few = is.bit_is.few in
    let place : code ≡ 256 * w.number + 8 * i + bit = is.bit_is.code_is in
    let octet : code % 256 / 8 ≡ i = omega arith in
    let low : code % 8 ≡ bit = omega arith in
    record { number = omega arith; bit = rw (octet, low, ← get_or-take 32 w.octets i 0 small) is.bit_is.set }

window_there : (code : ℕ) (w : Window) → HasBit code w → Contains (window_codes w) code
window_there code w h =
    let i = code % 256 / 8 in
    let small : i < 32 = omega arith in
    elim (cases_lt i (length w.octets)) [
      | inl within ↦
          octets_there (256 * w.number) (take 32 w.octets) i (code % 8) code (record {
            within = omega (arith, length-take 32 w.octets);
            bit_is = record { few = omega arith; code_is = omega (arith, h.number); set = rw (get_or-take 32 w.octets i 0 small) h.bit };
          })
      | inr past ↦
          let zero_bit : bit_at (slice_index w.octets i) (7 - code % 8) ≡ 0 = rw (get_or_past w.octets i 0 past) (bit_at-zero (7 - code % 8)) in
          absurd (omega (arith, h.bit))
    ]

pub windows_list : WindowsListBits
windows_list ws code = (
  λ has. let (k, w, less, is, listed) = listed_from window_codes ws code has in (k, w, less, is, window_from code w listed),
  λ (k, w, less, is, bit). listed_at window_codes ws code k w less is (window_there code w bit),
)
