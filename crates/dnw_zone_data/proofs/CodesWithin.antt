-- The codes of types that a bitmap lists ascend.
use Rattle.std.proofs.Common.{◌≡◌, ◌≤◌, ◌<◌, ◌+◌, ◌-◌, ◌*◌, ◌==◌, ℕ, suc, false, List, [], ◌∷◌, ◌++◌, length, map, refl, sym, ap, subst, arith, append_assoc, append-nil, inl, inr}
use Rattle.std.specs.Prelude.{nat_eq}
use Rattle.std.specs.Int.{bit_at}
use Rattle.std.specs.List.{dedup_from}
use Rattle.std.specs.List.Sorted.{IsStrictlySortedBy}
use Rattle.std.proofs.lemmas.Bool.{cases_Bool, ne_eqb}
use Rattle.dnw_base.specs.declared.record_type.RecordType.{RecordType}
use Rattle.dnw_base.specs.RecordTypes.{type_cmp, type_code}
use Rattle.dnw_data.specs.TypeSets.{bit_codes, octet_codes, octets_codes}
use Rattle.dnw_data.proofs.Sets.{empty_ascends, sorted_end, sorted_more}

-- ---- codes that ascend, from the least on, and are those of types

abbrev pub Within : ℕ → List ℕ → Type 0
Within least [] = Unit {0}
Within least (code ∷ codes) = (least ≤ code) × (code < 65536) × Within (code + 1) codes

pub within_less : (low high : ℕ) (codes : List ℕ) → low ≤ high → Within high codes → Within low codes
within_less low high [] le h = tt
within_less low high (code ∷ codes) le h = (omega (arith, le, h.0), h.1, h.2)

pub bit_within : (first octet bit : ℕ) (rest : List ℕ) → bit < 8 → first + 8 ≤ 65536 → Within (first + suc bit) rest
    → Within (first + bit) (bit_codes first octet bit ++ rest)
bit_within first octet bit rest below few h = elim (cases_Bool (bit_at octet (7 - bit) == 1)) [
  | inl set ↦ rw set (omega arith, omega (arith, below, few), within_less (first + bit + 1) (first + suc bit) rest (omega arith) h)
  | inr unset ↦ rw unset (within_less (first + bit) (first + suc bit) rest (omega arith) h)
]

eight : (a b c d e f g h rest : List ℕ) → (a ++ (b ++ (c ++ (d ++ (e ++ (f ++ (g ++ (h ++ [])))))))) ++ rest ≡ a ++ (b ++ (c ++ (d ++ (e ++ (f ++ (g ++ (h ++ rest)))))))
eight a b c d e f g h rest = simp (append_assoc, append-nil)

octet_within : (first octet : ℕ) (rest : List ℕ) → first + 8 ≤ 65536 → Within (first + 8) rest → Within first (octet_codes first octet ++ rest)
octet_within first octet rest few h =
    let f : ℕ → List ℕ = bit_codes first octet in
    let one : (bit : ℕ) (xs : List ℕ) → bit < 8 → Within (first + suc bit) xs → Within (first + bit) (f bit ++ xs) =
    λ bit xs below w. bit_within first octet bit xs below few w in
    let all = one 0 _ (omega arith) (one 1 _ (omega arith) (one 2 _ (omega arith) (one 3 _ (omega arith) (one 4 _ (omega arith) (one 5 _ (omega arith) (one 6 _ (omega arith) (one 7 rest (omega arith) h))))))) in
    subst (Within first) (sym (eight (f 0) (f 1) (f 2) (f 3) (f 4) (f 5) (f 6) (f 7) rest)) (within_less first (first + 0) _ (omega arith) all)

pub octets_within : (first : ℕ) (octets rest : List ℕ) → first + 8 * length octets ≤ 65536 → Within (first + 8 * length octets) rest
    → Within first (octets_codes first octets ++ rest)
octets_within first [] rest few h = within_less first (first + 8 * 0) rest (omega arith) h
octets_within first (o ∷ octets) rest few h =
    let on = octets_within (first + 8) octets rest (omega (arith, few)) (within_less (first + 8 + 8 * length octets) (first + 8 * suc (length octets)) rest (omega arith) h) in
    subst (Within first) (sym (append_assoc (octet_codes first o) (octets_codes (first + 8) octets) rest))
    (octet_within first o (octets_codes (first + 8) octets ++ rest) (omega (arith, few)) on)

-- ---- types whose codes ascend are a set

pub once : (code : ℕ) (codes : List ℕ) → Within (code + 1) codes → dedup_from nat_eq code codes ≡ code ∷ codes
once code [] h = refl
once code (next ∷ codes) h =
    let other : nat_eq next code ≡ false = ne_eqb next code (omega (arith, h.0)) in
    rw other (ap (λ (xs : List ℕ). code ∷ xs) (once next codes h.2))

pub ascending_types : (least : ℕ) (types : List RecordType) → Within least (map type_code types) → IsStrictlySortedBy type_cmp types
ascending_types least [] h = empty_ascends [] refl
ascending_types least (record_type ∷ []) h = sorted_end record_type [] 0 (omega arith)
ascending_types least (record_type ∷ next ∷ types) h =
    sorted_more record_type next types (omega (arith, h.2.0)) (ascending_types (type_code record_type + 1) (next ∷ types) h.2)
