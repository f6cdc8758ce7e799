-- Types of the first window, each after the one before it.
use Rattle.std.proofs.Common.{◌≡◌, ◌≢◌, ◌≤◌, ◌<◌, ℕ, zero, suc, ◌+◌, ◌-◌, ◌*◌, ◌/◌, ◌%◌, ◌^◌, true, List, [], ◌∷◌, ◌++◌, length, take, map, replicate, bit_or, refl, sym, ap, ap₂, ◌∙◌, subst, arith, append_assoc, append-nil, inl, inr}
use Rattle.std.specs.Prelude.{nat_eq, slice_index, slice_set}
use Rattle.std.specs.Int.{bit_at, w8}
use Rattle.std.specs.List.{dedup}
use Rattle.std.proofs.lemmas.Bool.{cases_lt}
use Rattle.std.proofs.lemmas.List.{get_or-set_same, length-set, length-take-le, map-append, take_all}
use Rattle.std.proofs.lemmas.Nat.Bits.{bit_at-zero, bit_at_set_same}
use Rattle.dnw_base.specs.declared.record_type.RecordType.{RecordType}
use Rattle.dnw_base.specs.RecordTypes.{type_code}
use Rattle.dnw_data.specs.TypeSets.{window, window_bytes, octet_codes, octets_codes}
use Rattle.dnw_data.proofs.Sets.{settled_already}
use Rattle.dnw_data.proofs.Writing.{Taken, Used, all_below, codes_below, taken_bit, used_ends}
use Rattle.dnw_zone_data.specs.TypeLists.{AreBitmap}
use Rattle.dnw_zone_data.proofs.CodesWithin.{Within, ascending_types, octets_within, once}

-- ---- one octet

-- no bit of an octet is set from this one on
abbrev ClearOctet : ℕ → ℕ → Type 0
ClearOctet bit octet = (k : ℕ) → bit ≤ k → k < 8 → bit_at octet (7 - k) ≡ 0

up_to : (first octet bit more : ℕ) → bit + more ≡ 8 → ClearOctet bit octet → codes_below first octet 8 ≡ codes_below first octet bit
up_to first octet bit zero e clear = ap (codes_below first octet) (let all : 8 ≡ bit = omega (arith, e) in all)
up_to first octet bit (suc more) e clear =
    let unset = clear bit (omega arith) (omega (arith, e)) in
    let here : codes_below first octet (suc bit) ≡ codes_below first octet bit = rw unset (append-nil (codes_below first octet bit)) in
    up_to first octet (suc bit) more (omega (arith, e)) (λ k low below. clear k (omega (arith, low)) below) ∙ here

codes_up_to : (first octet bit : ℕ) → bit ≤ 8 → ClearOctet bit octet → octet_codes first octet ≡ codes_below first octet bit
codes_up_to first octet bit few clear = sym (all_below first octet) ∙ up_to first octet bit (8 - bit) (omega (arith, few)) clear

-- an octet with one bit more
abbrev with_bit : ℕ → ℕ → ℕ
with_bit bit octet = bit_or octet (1 * 2 ^ (7 - bit) % 2 ^ 8)

bit_more : (first octet bit : ℕ) → bit < 8 → ClearOctet bit octet
    → (octet_codes first (with_bit bit octet) ≡ octet_codes first octet ++ (first + bit) ∷ []) × ClearOctet (bit + 1) (with_bit bit octet)
bit_more first octet bit within clear =
    let codes = codes_below first octet bit ++ (first + bit) ∷ [] in
    let before : Taken first octet bit codes ((first + bit) ∷ []) = record { taken = refl; above = (omega arith, tt); unset = clear } in
    let after = taken_bit true first octet bit codes ((first + bit) ∷ []) [] within before refl tt in (
      codes_up_to first (with_bit bit octet) (bit + 1) (omega (arith, within)) after.unset
          ∙ sym (append-nil (codes_below first (with_bit bit octet) (bit + 1))) ∙ after.taken
          ∙ ap (λ (l : List ℕ). l ++ (first + bit) ∷ []) (sym (codes_up_to first octet bit (omega (arith, within)) clear)),
      after.unset,
    )

bit_is_set : (octet bit : ℕ) → bit < 8 → with_bit bit octet ≢ 0
bit_is_set octet bit within e =
    let one = bit_at_set_same w8 octet (7 - bit) (omega arith) in
    omega (arith, one, ap (λ (o : ℕ). bit_at o (7 - bit)) e, bit_at-zero (7 - bit))

-- ---- the octets of a window

-- no bit of octets is set from this one on
abbrev pub Clear : ℕ → List ℕ → Type 0
Clear n [] = Unit {0}
Clear n (octet ∷ octets) = ClearOctet n octet × Clear (n - 8) octets

no_codes : (first : ℕ) (octets : List ℕ) → Clear 0 octets → octets_codes first octets ≡ []
no_codes first [] clear = refl
no_codes first (octet ∷ octets) clear =
    ap (λ (l : List ℕ). l ++ octets_codes (first + 8) octets) (codes_up_to first octet 0 (omega arith) clear.0) ∙ no_codes (first + 8) octets clear.1

-- octets with the bit of a code
abbrev pub with_code : ℕ → List ℕ → List ℕ
with_code n octets = slice_set octets (n / 8) (with_bit (n % 8) (slice_index octets (n / 8)))

pub code_more : (first n : ℕ) (octets : List ℕ) → n < 8 * length octets → Clear n octets
    → (octets_codes first (with_code n octets) ≡ octets_codes first octets ++ (first + n) ∷ []) × Clear (n + 1) (with_code n octets)
code_more first n [] within clear = absurd (omega (arith, within))
code_more first n (o ∷ octets) within clear = elim (cases_lt n 8) [
  | inl low ↦
      let p = with_bit n o in
      let here : with_code n (o ∷ octets) ≡ p ∷ octets = rw ((let e : n / 8 ≡ 0 = omega (arith, low) in e), (let e : n % 8 ≡ n = omega (arith, low) in e)) refl in
      let none = no_codes (first + 8) octets (subst (λ (m : ℕ). Clear m octets) (let e : n - 8 ≡ 0 = omega (arith, low) in e) clear.1) in
      let one = bit_more first o n low clear.0 in
      rw here (
        ap₂ (λ (a b : List ℕ). a ++ b) one.0 none ∙ append-nil (octet_codes first o ++ (first + n) ∷ [])
            ∙ ap (λ (l : List ℕ). l ++ (first + n) ∷ []) (sym (append-nil (octet_codes first o)) ∙ ap (λ (l : List ℕ). octet_codes first o ++ l) (sym none)),
        (one.1, subst (λ (m : ℕ). Clear m octets) (let e : n - 8 ≡ n + 1 - 8 = omega (arith, low) in e) clear.1),
      )
  | inr high ↦
      let m = n - 8 in
      let there : with_code n (o ∷ octets) ≡ o ∷ with_code m octets =
      rw ((let e : n / 8 ≡ suc (m / 8) = omega (arith, high) in e), (let e : n % 8 ≡ m % 8 = omega (arith, high) in e)) refl in
      let more = code_more (first + 8) m octets (omega (arith, within, high)) clear.1 in
      rw there (
        ap (λ (l : List ℕ). octet_codes first o ++ l) more.0 ∙ sym (append_assoc (octet_codes first o) (octets_codes (first + 8) octets) ((first + 8 + m) ∷ []))
            ∙ ap (λ (c : ℕ). (octet_codes first o ++ octets_codes (first + 8) octets) ++ c ∷ []) (let e : first + 8 + m ≡ first + n = omega (arith, high) in e),
        ((λ k low below. absurd (omega (arith, high, low, below))), subst (λ (k : ℕ). Clear k (with_code m octets)) (let e : m + 1 ≡ n + 1 - 8 = omega (arith, high) in e) more.1),
      )
]

pub code_is_set : (n : ℕ) (octets : List ℕ) → n < 8 * length octets → slice_index (with_code n octets) (n / 8) ≢ 0
code_is_set n octets within e =
    bit_is_set (slice_index octets (n / 8)) (n % 8) (omega arith)
    (sym (get_or-set_same octets (n / 8) (with_bit (n % 8) (slice_index octets (n / 8))) 0 (omega (arith, within))) ∙ e)

-- ---- the octets up to the last code

cut : (first n len : ℕ) (octets : List ℕ) → n ≤ 8 * len → Clear n octets → octets_codes first (take len octets) ≡ octets_codes first octets
cut first n zero octets few clear = sym (no_codes first octets (subst (λ (m : ℕ). Clear m octets) (let e : n ≡ 0 = omega (arith, few) in e) clear))
cut first n (suc len) [] few clear = refl
cut first n (suc len) (o ∷ octets) few clear = ap (λ (l : List ℕ). octet_codes first o ++ l) (cut (first + 8) (n - 8) len octets (omega (arith, few)) clear.1)

all_once : (least : ℕ) (codes : List ℕ) → Within least codes → dedup nat_eq codes ≡ codes
all_once least [] h = refl
all_once least (code ∷ codes) h = once code codes h.2

-- ---- the bitmap of types

no_bits : (n : ℕ) → Clear 0 (replicate n 0)
no_bits zero = tt
no_bits (suc n) = ((λ k low below. bit_at-zero (7 - k)), no_bits n)

later : (n m : ℕ) (octets : List ℕ) → n ≤ m → Clear n octets → Clear m octets
later n m [] le clear = tt
later n m (o ∷ octets) le clear = ((λ k low below. clear.0 k (omega (arith, le, low)) below), later (n - 8) (m - 8) octets (omega (arith, le)) clear.1)

-- The octets of the first window have the bits of these types, and none from the next code on.
pub record Lists (listed : List RecordType) (octets : List ℕ) (next : ℕ) : Type 0 where
  pub codes : octets_codes 0 octets ≡ map type_code listed
  pub clear : Clear next octets
  pub size : length octets ≡ 32
  pub few : next ≤ 256
  pub last : 0 < next → slice_index octets ((next - 1) / 8) ≢ 0

pub lists_none : Lists [] (replicate 32 0) 0
lists_none = record { codes = refl; clear = no_bits 32; size = refl; few = omega arith; last = λ some. absurd (omega (arith, some)) }

pub lists_more : (listed : List RecordType) (octets : List ℕ) (next code : ℕ) (record_type : RecordType) → Lists listed octets next → next ≤ code → code ≤ 255
    → code ≡ type_code record_type → Lists (listed ++ record_type ∷ []) (with_code code octets) (code + 1)
lists_more listed octets next code record_type so low few is =
    let within : code < 8 * length octets = omega (arith, few, so.size) in
    let more = code_more 0 code octets within (later next code octets low so.clear) in record {
      codes =
          more.0 ∙ ap₂ (λ (xs : List ℕ) (n : ℕ). xs ++ n ∷ []) so.codes (let e : 0 + code ≡ type_code record_type = omega (arith, is) in e)
          ∙ sym (map-append type_code listed (record_type ∷ []));
      clear = more.1;
      size = length-set octets (code / 8) _ ∙ so.size;
      few = omega (arith, few);
      last = λ some. subst (λ (i : ℕ). slice_index (with_code code octets) i ≢ 0) (let e : code / 8 ≡ (code + 1 - 1) / 8 = omega arith in e) (code_is_set code octets within);
    }

-- the octets up to that of the last code are the bitmap
pub window_bitmap : (listed : List RecordType) (octets : List ℕ) (next : ℕ) → Lists listed octets next → 0 < next
    → let len = (next + 7) / 8 in AreBitmap listed (0 ∷ len ∷ take len octets)
window_bitmap listed octets next so some =
    let len = (next + 7) / 8 in
    let own = take len octets in
    let small : len ≤ 32 = omega (arith, so.few) in
    let used : Used octets len = record { within = omega (arith, small, so.size); codes = λ first. cut first next len octets (omega arith) so.clear } in
    let own_size : length own ≡ len = length-take-le len octets (omega (arith, small, so.size)) in
    let last = subst (λ (i : ℕ). slice_index octets i ≢ 0) (let e : (next - 1) / 8 ≡ len - 1 = omega (arith, some) in e) (so.last some) in
    let all : Within 0 (map type_code listed) = subst (Within 0) (append-nil (octets_codes 0 octets) ∙ so.codes) (octets_within 0 octets [] (omega (arith, so.size)) tt) in
    let first = window 0 own in (
      listed,
      settled_already listed (ascending_types 0 listed all),
      record {
        windows = first ∷ [];
        spelled = ap (λ (k : ℕ). 0 ∷ k ∷ own) (sym own_size) ∙ sym (append-nil (window_bytes first));
        ascending = (omega arith, tt);
        written = (record { some = omega (arith, own_size, some); few = omega (arith, own_size, small); no_longer = used_ends octets len (omega (arith, some)) last used }, tt);
        same =
            append-nil (octets_codes 0 (take 32 own)) ∙ ap (octets_codes 0) (take_all 32 own (omega (arith, own_size, small))) ∙ used.codes 0 ∙ so.codes
            ∙ sym (all_once 0 (map type_code listed) all);
      },
    )
