-- Types have one bitmap at most, as short as it can be.
use Rattle.std.proofs.Common.{◌≡◌, ◌≤◌, ◌<◌, ◌+◌, ◌-◌, ◌*◌, ◌==◌, ◌≢◌, ℕ, zero, suc, List, [], ◌∷◌, ◌++◌, length, BTreeSet, Contains, refl, sym, ap, ◌∙◌, subst, arith, append_assoc, inl, inr}
use Rattle.std.specs.Prelude.{flat_map}
use Rattle.std.specs.Int.{bit_at}
use Rattle.std.specs.List.{AllByRecursion}
use Rattle.std.specs.List.Sorted.{IsStrictlySortedBy}
use Rattle.std.specs.Ordering.{is_eq}
use Rattle.std.proofs.lemmas.Bool.{cases_Bool, cases_eq, cases_lt, eqb-false, eqb-true}
use Rattle.std.proofs.lemmas.Bool.Decides.{same_from_decides}
use Rattle.std.proofs.lemmas.List.{take_all}
use Rattle.std.proofs.lemmas.Map.Lookups.{btree_set_from_contains, CmpEqualImpliesEq}
use Rattle.std.proofs.lemmas.Map.Views.{btree_set_contains_iff}
use Rattle.std.proofs.lemmas.Nat.Bits.{bit_at-lt, same_from_bits_below}
use Rattle.dnw_base.specs.declared.record_type.RecordType.{RecordType}
use Rattle.dnw_base.specs.RecordTypes.{type_cmp}
use Rattle.dnw_base.specs.Inside.RecordTypeLaws.{types_tied, types_total}
use Rattle.dnw_data.specs.TypeSets.{Window, window_bytes, windows_codes, bit_codes, octet_codes, octets_codes, set_codes, EndsInBit, NumbersFrom, IsWritten}
use Rattle.dnw_zone_values.specs.Octets.{IsOctets}
use Rattle.dnw_zone_data.specs.TypeLists.{AreBitmap}
use Rattle.dnw_zone_data.proofs.CodesWithin.{Within, bit_within, octets_within, within_less}

-- ---- parts of octets

pub front_fit : (a b : List ℕ) → IsOctets (a ++ b) → IsOctets a
front_fit [] b h i = omega arith
front_fit (o ∷ a) b h zero = h 0
front_fit (o ∷ a) b h (suc i) = front_fit a b (λ j. h (suc j)) i

pub back_fit : (a b : List ℕ) → IsOctets (a ++ b) → IsOctets b
back_fit [] b h = h
back_fit (o ∷ a) b h = back_fit a b (λ j. h (suc j))

-- ---- the bits of an octet

-- the codes of so many bits from one on
abbrev codes_from : ℕ → ℕ → ℕ → ℕ → List ℕ
codes_from first octet zero bit = []
codes_from first octet (suc n) bit = bit_codes first octet bit ++ codes_from first octet n (suc bit)

from_within : (first octet n bit : ℕ) (rest : List ℕ) → n + bit ≡ 8 → first + 8 ≤ 65536 → Within (first + 8) rest
    → Within (first + bit) (codes_from first octet n bit ++ rest)
from_within first octet zero bit rest e few h = within_less (first + bit) (first + 8) rest (omega (arith, e)) h
from_within first octet (suc n) bit rest e few h =
    let later = from_within first octet n (suc bit) rest (omega (arith, e)) few h in
    subst (Within (first + bit)) (sym (append_assoc (bit_codes first octet bit) (codes_from first octet n (suc bit)) rest))
    (bit_within first octet bit (codes_from first octet n (suc bit) ++ rest) (omega (arith, e)) few later)

not_here : (least code : ℕ) (r s : List ℕ) → code < least → Within least s → code ∷ r ≡ s → ⊥
not_here least code r s low h e = let w = subst (Within least) (sym e) h in omega (arith, low, w.0)

both_zero : (a b : ℕ) → a < 2 → b < 2 → a ≢ 1 → b ≢ 1 → a ≡ b
both_zero a b ha hb na nb = omega arith

same_bit : (first o p bit : ℕ) (r s : List ℕ) → Within (first + suc bit) r → Within (first + suc bit) s → bit_codes first o bit ++ r ≡ bit_codes first p bit ++ s
    → (bit_at o (7 - bit) ≡ bit_at p (7 - bit)) × (r ≡ s)
same_bit first o p bit r s hr hs e =
    let x = bit_at o (7 - bit) in
    let y = bit_at p (7 - bit) in
    elim (cases_Bool (x == 1)) [
      | inl a ↦ elim (cases_Bool (y == 1)) [
        | inl b ↦ let both : (first + bit) ∷ r ≡ (first + bit) ∷ s = rw (a, b) at e in (eqb-true x 1 a ∙ sym (eqb-true y 1 b), cc)
        | inr b ↦ absurd (not_here (first + suc bit) (first + bit) r s (omega arith) hs (rw (a, b) at e))
      ]
      | inr a ↦ elim (cases_Bool (y == 1)) [
        | inl b ↦ absurd (not_here (first + suc bit) (first + bit) s r (omega arith) hr (sym (rw (a, b) at e)))
        | inr b ↦ (both_zero x y (bit_at-lt o (7 - bit)) (bit_at-lt p (7 - bit)) (eqb-false x 1 a) (eqb-false y 1 b), rw (a, b) at e)
      ]
    ]

same_from : (first o p n bit : ℕ) (r s : List ℕ) → n + bit ≡ 8 → first + 8 ≤ 65536 → Within (first + 8) r → Within (first + 8) s
    → codes_from first o n bit ++ r ≡ codes_from first p n bit ++ s
    → ((k : ℕ) → bit ≤ k → k < 8 → bit_at o (7 - k) ≡ bit_at p (7 - k)) × (r ≡ s)
same_from first o p zero bit r s e few hr hs same = ((λ k low high. absurd (omega (arith, e, low, high))), same)
same_from first o p (suc n) bit r s e few hr hs same =
    let a = codes_from first o n (suc bit) in
    let b = codes_from first p n (suc bit) in
    let up = from_within first o n (suc bit) r (omega (arith, e)) few hr in
    let also = from_within first p n (suc bit) s (omega (arith, e)) few hs in
    let here = same_bit first o p bit (a ++ r) (b ++ s) up also (sym (append_assoc (bit_codes first o bit) a r) ∙ same ∙ append_assoc (bit_codes first p bit) b s) in
    let later = same_from first o p n (suc bit) r s (omega (arith, e)) few hr hs here.1 in (
      λ k low high. elim (cases_eq k bit) [
        | inl is ↦ rw is here.0
        | inr other ↦ later.0 k (omega (arith, low, other)) high
      ],
      later.1,
    )

same_octet : (first o p : ℕ) (r s : List ℕ) → o < 256 → p < 256 → first + 8 ≤ 65536 → Within (first + 8) r → Within (first + 8) s
    → octet_codes first o ++ r ≡ octet_codes first p ++ s → (o ≡ p) × (r ≡ s)
same_octet first o p r s ho hp few hr hs same =
    let all = same_from first o p 8 0 r s refl few hr hs same in
    let bit : (i : ℕ) → i < 8 → bit_at o i ≡ bit_at p i =
    λ i below. subst (λ (k : ℕ). bit_at o k ≡ bit_at p k) (let back : 7 - (7 - i) ≡ i = omega (arith, below) in back) (all.0 (7 - i) (omega arith) (omega arith)) in
    (same_from_bits_below 8 o p ho hp bit, all.1)

-- ---- the octets of a window

octets_up : (first bound : ℕ) (octets rest : List ℕ) → first + 8 * length octets ≤ bound → bound ≤ 65536 → Within bound rest → Within first (octets_codes first octets ++ rest)
octets_up first bound octets rest fits few h =
    octets_within first octets rest (omega (arith, fits, few)) (within_less (first + 8 * length octets) bound rest fits h)

no_bit : (o : ℕ) (octets : List ℕ) → 0 ≡ o → octets ≡ [] → EndsInBit (o ∷ octets) → ⊥
no_bit o [] unset none ends = ends (sym unset)
no_bit o (next ∷ octets) unset none ends = cc

ends_later : (o : ℕ) (octets : List ℕ) → EndsInBit (o ∷ octets) → EndsInBit octets
ends_later o [] h = tt
ends_later o (next ∷ octets) h = h

-- octets that list no code are none
none_listed : (first bound : ℕ) (octets r s : List ℕ) → first + 8 * length octets ≤ bound → bound ≤ 65536 → IsOctets octets → EndsInBit octets
    → Within bound r → Within bound s → r ≡ octets_codes first octets ++ s → octets ≡ []
none_listed first bound [] r s fits few h ends hr hs same = refl
none_listed first bound (o ∷ octets) r s fits few h ends hr hs same =
    let low = within_less (first + 8) bound r (omega (arith, fits)) hr in
    let up = octets_up (first + 8) bound octets s (omega (arith, fits)) few hs in
    let here = same_octet first 0 o r (octets_codes (first + 8) octets ++ s) (omega arith) (h 0) (omega (arith, fits, few)) low up
    (same ∙ append_assoc (octet_codes first o) (octets_codes (first + 8) octets) s) in
    let none = none_listed (first + 8) bound octets r s (omega (arith, fits)) few (λ i. h (suc i)) (ends_later o octets ends) hr hs here.1 in
    absurd (no_bit o octets here.0 none ends)

same_octets : (first bound : ℕ) (a b r s : List ℕ) → first + 8 * length a ≤ bound → first + 8 * length b ≤ bound → bound ≤ 65536 → IsOctets a → IsOctets b
    → EndsInBit a → EndsInBit b → Within bound r → Within bound s → octets_codes first a ++ r ≡ octets_codes first b ++ s → (a ≡ b) × (r ≡ s)
same_octets first bound [] [] r s fa fb few ha hb ea eb hr hs same = (refl, same)
same_octets first bound [] (p ∷ b) r s fa fb few ha hb ea eb hr hs same =
    let no = none_listed first bound (p ∷ b) r s fb few hb eb hr hs same in absurd cc
same_octets first bound (o ∷ a) [] r s fa fb few ha hb ea eb hr hs same =
    let no = none_listed first bound (o ∷ a) s r fa few ha ea hs hr (sym same) in absurd cc
same_octets first bound (o ∷ a) (p ∷ b) r s fa fb few ha hb ea eb hr hs same =
    let x = octets_codes (first + 8) a in
    let y = octets_codes (first + 8) b in
    let up = octets_up (first + 8) bound a r (omega (arith, fa)) few hr in
    let also = octets_up (first + 8) bound b s (omega (arith, fb)) few hs in
    let here = same_octet first o p (x ++ r) (y ++ s) (ha 0) (hb 0) (omega (arith, fa, few)) up also
    (sym (append_assoc (octet_codes first o) x r) ∙ same ∙ append_assoc (octet_codes first p) y s) in
    let later = same_octets (first + 8) bound a b r s (omega (arith, fa)) (omega (arith, fb)) few (λ i. ha (suc i)) (λ i. hb (suc i)) (ends_later o a ea) (ends_later p b eb) hr hs here.1 in
    (ap (λ (c : ℕ). c ∷ a) here.0 ∙ ap (λ (xs : List ℕ). p ∷ xs) later.0, later.1)

-- ---- windows

-- windows as they are written, from this number on
abbrev AreWritten : ℕ → List Window → Type 0
AreWritten least ws = NumbersFrom least ws × AllByRecursion IsWritten ws × IsOctets (flat_map window_bytes ws)

rest_written : (least : ℕ) (w : Window) (ws : List Window) → AreWritten least (w ∷ ws) → AreWritten (w.number + 1) ws
rest_written least w ws h = (h.0.1, h.1.1, back_fit w.octets (flat_map window_bytes ws) (λ i. h.2 (suc (suc i))))

octets_of : (least : ℕ) (w : Window) (ws : List Window) → AreWritten least (w ∷ ws) → IsOctets w.octets
octets_of least w ws h = front_fit w.octets (flat_map window_bytes ws) (λ i. h.2 (suc (suc i)))

first_codes : (least : ℕ) (w : Window) (ws : List Window) → AreWritten least (w ∷ ws) → windows_codes (w ∷ ws) ≡ octets_codes (256 * w.number) w.octets ++ windows_codes ws
first_codes least w ws h = ap (λ (xs : List ℕ). octets_codes (256 * w.number) xs ++ windows_codes ws) (take_all 32 w.octets h.1.0.few)

windows_up : (least : ℕ) (ws : List Window) → AreWritten least ws → Within (256 * least) (windows_codes ws)
windows_up least [] h = tt
windows_up least (w ∷ ws) h =
    let later = windows_up (w.number + 1) ws (rest_written least w ws h) in
    let up = octets_up (256 * w.number) (256 * (w.number + 1)) w.octets (windows_codes ws) (omega (arith, h.1.0.few)) (let high = h.2 0 in omega (arith, high)) later in
    subst (Within (256 * least)) (sym (first_codes least w ws h)) (within_less (256 * least) (256 * w.number) _ (omega (arith, h.0.0)) up)

-- a window lists a code
lists_code : (least : ℕ) (w : Window) (ws : List Window) (others : List ℕ) → AreWritten least (w ∷ ws) → Within (256 * (w.number + 1)) others → windows_codes (w ∷ ws) ≡ others → ⊥
lists_code least w ws others h above same =
    let is = h.1.0 in
    let later = windows_up (w.number + 1) ws (rest_written least w ws h) in
    let none = none_listed (256 * w.number) (256 * (w.number + 1)) w.octets others (windows_codes ws) (omega (arith, is.few)) (let high = h.2 0 in omega (arith, high))
    (octets_of least w ws h) is.no_longer above later (sym same ∙ first_codes least w ws h) in
    omega (arith, is.some, ap length none)

same_windows : (least : ℕ) (ws vs : List Window) → AreWritten least ws → AreWritten least vs → windows_codes ws ≡ windows_codes vs
    → flat_map window_bytes ws ≡ flat_map window_bytes vs
same_windows least [] [] h k same = refl
same_windows least [] (v ∷ vs) h k same = absurd (lists_code least v vs [] k tt (sym same))
same_windows least (w ∷ ws) [] h k same = absurd (lists_code least w ws [] h tt same)
same_windows least (w ∷ ws) (v ∷ vs) h k same = elim (cases_eq w.number v.number) [
  | inl e ↦
      let first = 256 * w.number in
      let bound = 256 * (w.number + 1) in
      let more = rest_written least w ws h in
      let also : AreWritten (w.number + 1) vs = subst (λ (n : ℕ). AreWritten (n + 1) vs) (sym e) (rest_written least v vs k) in
      let codes = sym (first_codes least w ws h) ∙ same ∙ first_codes least v vs k ∙ ap (λ (n : ℕ). octets_codes (256 * n) v.octets ++ windows_codes vs) (sym e) in
      let here = same_octets first bound w.octets v.octets (windows_codes ws) (windows_codes vs) (omega (arith, h.1.0.few)) (omega (arith, k.1.0.few))
      (let high = h.2 0 in omega (arith, high)) (octets_of least w ws h) (octets_of least v vs k) h.1.0.no_longer k.1.0.no_longer (windows_up (w.number + 1) ws more) (windows_up (w.number + 1) vs also) codes in
      let rest = same_windows (w.number + 1) ws vs more also here.1 in
      ap (λ (n : ℕ). n ∷ length w.octets ∷ (w.octets ++ flat_map window_bytes ws)) e
      ∙ ap (λ (o : List ℕ). v.number ∷ length o ∷ (o ++ flat_map window_bytes ws)) here.0
      ∙ ap (λ (xs : List ℕ). v.number ∷ length v.octets ∷ (v.octets ++ xs)) rest
  | inr other ↦ elim (cases_lt w.number v.number) [
    | inl less ↦
        let up = windows_up v.number (v ∷ vs) ((omega arith, k.0.1), k.1, k.2) in
        absurd (lists_code least w ws (windows_codes (v ∷ vs)) h (within_less (256 * (w.number + 1)) (256 * v.number) _ (omega (arith, less)) up) same)
    | inr most ↦
        let up = windows_up w.number (w ∷ ws) ((omega arith, h.0.1), h.1, h.2) in
        absurd (lists_code least v vs (windows_codes (w ∷ ws)) k (within_less (256 * (v.number + 1)) (256 * w.number) _ (omega (arith, most, other)) up) (sym same))
  ]
]

-- ---- sets

exact : CmpEqualImpliesEq type_cmp
exact x y tied = types_tied x y (ap is_eq tied)

same_set : (xs ys : List RecordType) → IsStrictlySortedBy type_cmp xs → IsStrictlySortedBy type_cmp ys
    → ((q : RecordType) → Contains xs q → Contains ys q) → ((q : RecordType) → Contains ys q → Contains xs q) → xs ≡ ys
same_set xs ys up also to back =
    let s : BTreeSet RecordType = record { keys = xs } in
    let t : BTreeSet RecordType = record { keys = ys } in
    let has = btree_set_contains_iff types_total exact s in
    let other = btree_set_contains_iff types_total exact t in
    btree_set_from_contains types_total s t up also (λ q. same_from_decides _ _ (λ h. to q ((has q).0 h), λ h. (has q).1 (back q h)) (other q)) exact

pub one_bitmap : (listed : List RecordType) (a b : List ℕ) → IsOctets a → IsOctets b → AreBitmap listed a → AreBitmap listed b → a ≡ b
one_bitmap listed a b ha hb (s, is, x) (t, also, y) =
    let same = same_set s t is.ascending also.ascending (λ q h. also.all q (is.no_others q h)) (λ q h. is.all q (also.no_others q h)) in
    x.spelled
    ∙ same_windows 0 x.windows y.windows (x.ascending, x.written, subst IsOctets x.spelled ha) (y.ascending, y.written, subst IsOctets y.spelled hb) (x.same ∙ ap set_codes same ∙ sym y.same)
    ∙ sym y.spelled
