-- What is printed of bitmaps without windows is parsed as them.
use Rattle.std.proofs.Common.{◌≡◌, ◌≢◌, ◌<◌, ◌≤◌, ◌+◌, ◌-◌, ◌*◌, ◌/◌, ◌%◌, ◌==◌, ◌&&◌, ℕ, zero, suc, Bool, true, false, not, List, [], ◌∷◌, ◌++◌, length, map, slice_index, decimal, refl, sym, ap, ◌∙◌, subst, arith, append-nil, length-append, inl, inr}
use Rattle.std.specs.Prelude.{flat_map, nat_le, nat_lt, None, Some}
use Rattle.std.specs.Int.{bit_at}
use Rattle.std.specs.List.{AllByRecursion}
use Rattle.std.proofs.lemmas.Bool.{and_parts, cases_Bool, cases_eq, eqb-true, leb-true, ltb-true}
use Rattle.std.proofs.lemmas.Fmt.{decimal_nonempty}
use Rattle.std.proofs.lemmas.List.{map-append}
use Rattle.dnw_base.specs.RecordTypes.{type_code, type_of_code}
use Rattle.dnw_data.proofs.Codes.{code_back}
use Rattle.dnw_data.specs.TypeSets.{bits, bit_codes, octet_codes, octets_codes}
use Rattle.dnw_data.specs.Values.{octets}
use Rattle.dnw_data.specs.declared.kind.Kind.TheVariants.{Octets}
use Rattle.dnw_data.specs.declared.kind.Shown.{Shown}
use Rattle.dnw_data.specs.declared.kind.Shown.TheVariants.{Ports, OldTypes}
use Rattle.dnw_zone_values.specs.Mnemonics.{service_named}
use Rattle.dnw_zone_values.specs.Octets.{IsOctets}
use Rattle.dnw_zone_values.specs.Prefixes.{ends_in_no_zero}
use Rattle.dnw_zone_data.specs.Bitmaps.{numbers_text, with_number, with_numbers, AreBits, AreBitWords, IsBitWord}
use Rattle.dnw_zone_data.specs.DataTextLaws.{FieldComesBack}
use Rattle.dnw_zone_data.specs.Generic.{generic_mark}
use Rattle.dnw_zone_data.specs.TypeLists.{shown_type}
use Rattle.dnw_zone_data.specs.Words.{is_end, word, after_spaces}
use Rattle.dnw_zone_data.proofs.FieldsBack.{shown_back, shown_other, shown_plain, shown_some}
use Rattle.dnw_zone_data.proofs.Items.{starts_twice}
use Rattle.dnw_zone_data.proofs.NumberFormsBack.{named_or}
use Rattle.dnw_zone_data.proofs.Plain.{all_plain, decimal_plain, plain_starts, plain_word, plain_after, plain_utf8}
use Rattle.dnw_zone_data.proofs.TypesBack.{no_type}

-- ---- one octet has the bits that it has

abbrev same : List ℕ → ℕ → Bool
same [] o = o == 0
same (x ∷ []) o = (x == o) && not (o == 0)
same (x ∷ y ∷ ys) o = false

abbrev is_same : ℕ → Bool
is_same o = same (with_numbers (octet_codes 0 o) []) o

all_same : ℕ → Bool
all_same zero = true
all_same (suc n) = is_same n && all_same n

each_same : (n o : ℕ) → all_same n ≡ true → o < n → is_same o ≡ true
unfolding all_same
each_same zero o h few = absurd (omega (arith, few))
each_same (suc n) o h few = elim (cases_eq o n) [
  | inl e ↦ ap is_same e ∙ (and_parts (is_same n) (all_same n) h).0
  | inr other ↦ each_same n o (and_parts (is_same n) (all_same n) h).1 (omega (arith, few, other))
]

octet_same : (o : ℕ) → o < 256 → is_same o ≡ true
unfolding all_same
octet_same o few = each_same 256 o refl few

none_same : (xs : List ℕ) (o : ℕ) → same xs o ≡ true → o ≡ 0 → xs ≡ []
none_same [] o h e = refl
none_same (x ∷ []) o h e = let some : not (o == 0) ≡ true = (and_parts (x == o) _ h).1 in let no = rw e at some in absurd cc
none_same (x ∷ y ∷ ys) o h e = absurd cc

some_same : (xs : List ℕ) (o : ℕ) → same xs o ≡ true → o ≢ 0 → xs ≡ o ∷ []
some_same [] o h e = absurd (e (eqb-true o 0 h))
some_same (x ∷ []) o h e = ap (λ (n : ℕ). n ∷ []) (eqb-true x o (and_parts (x == o) _ h).0)
some_same (x ∷ y ∷ ys) o h e = absurd cc

-- ---- octets after one

abbrev later : List ℕ → List ℕ
later ns = map (λ (n : ℕ). n + 8) ns

skip_one : (n o : ℕ) (own : List ℕ) → with_number (n + 8) (o ∷ own) ≡ o ∷ with_number n own
skip_one n o own =
    let k : (n + 8) / 8 ≡ suc (n / 8) = omega arith in
    let r : (n + 8) % 8 ≡ n % 8 = omega arith in
    let s : suc (n / 8) + 1 ≡ suc (n / 8 + 1) = omega arith in
    let z : suc (n / 8 + 1) - suc (length own) ≡ n / 8 + 1 - length own = omega arith in
    rw (k, r, s, z) refl

skip_new : (n : ℕ) → with_number (n + 8) [] ≡ 0 ∷ with_number n []
skip_new n =
    let k : (n + 8) / 8 ≡ suc (n / 8) = omega arith in
    let r : (n + 8) % 8 ≡ n % 8 = omega arith in
    let s : suc (n / 8) + 1 - 0 ≡ suc (n / 8 + 1 - 0) = omega arith in
    rw (k, r, s) refl

skips : (ns : List ℕ) (o : ℕ) (own : List ℕ) → with_numbers (later ns) (o ∷ own) ≡ o ∷ with_numbers ns own
skips [] o own = refl
skips (n ∷ ns) o own = ap (with_numbers (later ns)) (skip_one n o own) ∙ skips ns o (with_number n own)

skips_new : (ns : List ℕ) → ns ≢ [] → with_numbers (later ns) [] ≡ 0 ∷ with_numbers ns []
skips_new [] some = absurd (some refl)
skips_new (n ∷ ns) some = ap (with_numbers (later ns)) (skip_new n) ∙ skips ns 0 (with_number n [])

later_bit : (first o bit : ℕ) → bit_codes (first + 8) o bit ≡ later (bit_codes first o bit)
later_bit first o bit = elim (cases_Bool (bit_at o (7 - bit) == 1)) [
  | inl is ↦ let e : first + 8 + bit ≡ first + bit + 8 = omega arith in rw (is, e) refl
  | inr unset ↦ rw unset refl
]

later_bits : (first o : ℕ) (bs : List ℕ) → flat_map (bit_codes (first + 8) o) bs ≡ later (flat_map (bit_codes first o) bs)
later_bits first o [] = refl
later_bits first o (b ∷ bs) =
    rw (later_bit first o b, later_bits first o bs) (sym (map-append (λ (n : ℕ). n + 8) (bit_codes first o b) (flat_map (bit_codes first o) bs)))

later_octets : (first : ℕ) (own : List ℕ) → octets_codes (first + 8) own ≡ later (octets_codes first own)
later_octets first [] = refl
later_octets first (o ∷ own) =
    rw (later_bits first o bits, later_octets (first + 8) own) (sym (map-append (λ (n : ℕ). n + 8) (octet_codes first o) (octets_codes (first + 8) own)))

-- ---- the bits of octets make them

with_both : (a b own : List ℕ) → with_numbers (a ++ b) own ≡ with_numbers b (with_numbers a own)
with_both [] b own = refl
with_both (n ∷ a) b own = with_both a b (with_number n own)

some_codes : (own : List ℕ) → with_numbers (octets_codes 0 own) [] ≡ own → own ≢ [] → octets_codes 0 own ≢ []
some_codes own e some none = some (sym e ∙ ap (λ (ns : List ℕ). with_numbers ns []) none)

one_octet : (o : ℕ) (own : List ℕ) → o < 256 → with_numbers (octets_codes 0 own) [] ≡ own → (own ≡ [] → o ≢ 0) → with_numbers (octets_codes 0 (o ∷ own)) [] ≡ o ∷ own
one_octet o own few rest last =
    let ns = octets_codes 0 own in
    let split : with_numbers (octets_codes 0 (o ∷ own)) [] ≡ with_numbers (later ns) (with_numbers (octet_codes 0 o) []) =
    with_both (octet_codes 0 o) (octets_codes 8 own) [] ∙ ap (λ (xs : List ℕ). with_numbers xs (with_numbers (octet_codes 0 o) [])) (later_octets 0 own) in
    elim (cases_eq o 0) [
      | inl none ↦
          split ∙ ap (with_numbers (later ns)) (none_same _ o (octet_same o few) none)
          ∙ skips_new ns (some_codes own rest (λ end. last end none)) ∙ ap (λ (xs : List ℕ). 0 ∷ xs) rest ∙ ap (λ (n : ℕ). n ∷ own) (sym none)
      | inr some ↦
          split ∙ ap (with_numbers (later ns)) (some_same _ o (octet_same o few) some) ∙ skips ns o [] ∙ ap (λ (xs : List ℕ). o ∷ xs) rest
    ]

not_zero : (o : ℕ) → not (o == 0) ≡ true → o ≢ 0
not_zero o h e = let no = rw e at h in absurd cc

pub bits_make : (own : List ℕ) → IsOctets own → ends_in_no_zero own ≡ true → with_numbers (octets_codes 0 own) [] ≡ own
bits_make [] h end = refl
bits_make (o ∷ []) h end = one_octet o [] (h 0) refl (λ none. not_zero o end)
bits_make (o ∷ p ∷ own) h end = one_octet o (p ∷ own) (h 0) (bits_make (p ∷ own) (λ i. h (suc i)) end) (λ none. absurd cc)

-- ---- the numbers of a bitmap

each_both : (P : ℕ → Type 0) (a b : List ℕ) → AllByRecursion P a → AllByRecursion P b → AllByRecursion P (a ++ b)
each_both P [] b h k = k
each_both P (n ∷ a) b h k = (h.0, each_both P a b h.1 k)

each_bit : (P : ℕ → Type 0) (first o bit : ℕ) → P (first + bit) → AllByRecursion P (bit_codes first o bit)
each_bit P first o bit h = elim (cases_Bool (bit_at o (7 - bit) == 1)) [
  | inl set ↦ rw set (h, tt)
  | inr unset ↦ rw unset tt
]

each_of : (P : ℕ → Type 0) (first o : ℕ) (bs : List ℕ) → AllByRecursion (λ bit. P (first + bit)) bs → AllByRecursion P (flat_map (bit_codes first o) bs)
each_of P first o [] h = tt
each_of P first o (bit ∷ bs) h = each_both P (bit_codes first o bit) (flat_map (bit_codes first o) bs) (each_bit P first o bit h.0) (each_of P first o bs h.1)

-- numbers of these octets, from the first on
each_octet : (P : ℕ → Type 0) (first : ℕ) (own : List ℕ) → ((n : ℕ) → first ≤ n → n < first + 8 * length own → P n) → AllByRecursion P (octets_codes first own)
each_octet P first [] h = tt
each_octet P first (o ∷ own) h =
    let at : (bit : ℕ) → bit < 8 → P (first + bit) = λ bit few. h (first + bit) (omega arith) (omega (arith, few)) in
    each_both P (octet_codes first o) (octets_codes (first + 8) own)
    (each_of P first o bits (at 0 (omega arith), (at 1 (omega arith), (at 2 (omega arith), (at 3 (omega arith), (at 4 (omega arith), (at 5 (omega arith), (at 6 (omega arith), (at 7 (omega arith), tt)))))))))
    (each_octet P (first + 8) own (λ n low high. h n (omega (arith, low)) (omega (arith, high))))

-- a number of a bitmap of ports, or of types
abbrev pub IsBit : Shown → ℕ → Type 0
IsBit Ports n = n < 65536
IsBit OldTypes n = (1 ≤ n) × (n ≤ 127)
IsBit shown n = ⊥

pub ports_are : (own : List ℕ) → length own ≤ 8192 → AllByRecursion (IsBit Ports) (octets_codes 0 own)
ports_are own few = each_octet (IsBit Ports) 0 own (λ n low high. omega (arith, few, high))

-- type 0 is none of them
first_unset : (o : ℕ) → o < 128 → bit_codes 0 o 0 ≡ []
first_unset o few = let unset : (bit_at o 7 == 1) ≡ false = grind arith in rw unset refl

pub old_types_are : (own : List ℕ) → length own ≤ 16 → slice_index own 0 < 128 → AllByRecursion (IsBit OldTypes) (octets_codes 0 own)
old_types_are [] few none = tt
old_types_are (o ∷ own) few none =
    let P = IsBit OldTypes in
    let others = octets_codes 8 own in
    let rest : AllByRecursion P others = each_octet P 8 own (λ n low high. (omega (arith, low), omega (arith, few, high))) in
    let at : (bit : ℕ) → 1 ≤ bit → bit < 8 → P (0 + bit) = λ bit low high. (omega (arith, low), omega (arith, high)) in
    let first = each_of P 0 o (1 ∷ 2 ∷ 3 ∷ 4 ∷ 5 ∷ 6 ∷ 7 ∷ []) (at 1 (omega arith) (omega arith), (at 2 (omega arith) (omega arith), (at 3 (omega arith) (omega arith), (at 4 (omega arith) (omega arith), (at 5 (omega arith) (omega arith), (at 6 (omega arith) (omega arith), (at 7 (omega arith) (omega arith), tt))))))) in
    each_both P (octet_codes 0 o) others (subst (λ (xs : List ℕ). AllByRecursion P (xs ++ flat_map (bit_codes 0 o) (1 ∷ 2 ∷ 3 ∷ 4 ∷ 5 ∷ 6 ∷ 7 ∷ []))) (sym (first_unset o none)) first) rest

-- ---- words

-- a number is a plain word
pub port_plain : (n : ℕ) → n < 65536 → (all_plain (decimal n) ≡ true) × (0 < length (decimal n))
port_plain n few = (decimal_plain n (omega (arith, few)), decimal_nonempty n (omega (arith, few)))

pub old_type_plain : (n : ℕ) → n ≤ 127 → (all_plain (shown_type (type_of_code n)) ≡ true) × (0 < length (shown_type (type_of_code n)))
old_type_plain n few = (shown_plain (type_of_code n) (omega (arith, few, code_back n)), shown_some (type_of_code n))

numbers_end : (shown : Shown) (ns : List ℕ) → is_end (numbers_text shown ns) ≡ true
numbers_end shown [] = refl
numbers_end OldTypes (n ∷ ns) = refl
numbers_end shown (n ∷ ns) = refl

one_word : (shown : Shown) (n : ℕ) (ns w rest : List ℕ) → (all_plain w ≡ true) × (0 < length w) → is_end rest ≡ true → IsBitWord shown w n → AreBitWords shown rest ns
    → AreBitWords shown (32 ∷ (w ++ rest)) (n ∷ ns)
one_word shown n ns w rest (plain, some) end is words =
    rw (plain_starts w rest plain some, plain_word w rest plain end, plain_after w rest plain end) ((λ none. omega (arith, some, ap length none, length-append w rest)), is, words)

port_words : (ns : List ℕ) → AllByRecursion (IsBit Ports) ns → AreBitWords Ports (numbers_text Ports ns) ns
port_words [] h = refl
port_words (n ∷ ns) h =
    let plain = port_plain n h.0 in
    one_word Ports n ns (decimal n) (numbers_text Ports ns) plain (numbers_end Ports ns) (named_or service_named 65535 n (omega arith) (omega (arith, h.0))) (port_words ns h.1)

type_words : (ns : List ℕ) → AllByRecursion (IsBit OldTypes) ns → AreBitWords OldTypes (numbers_text OldTypes ns) ns
type_words [] h = refl
type_words (n ∷ ns) h =
    let kind = type_of_code n in
    let w = shown_type kind in
    let plain = old_type_plain n h.0.1 in
    let few : type_code kind < 65536 = omega (arith, h.0.1, code_back n) in
    let is : IsBitWord OldTypes w n = (kind, (plain_utf8 w plain.0, shown_back kind few ∙ ap (λ (c : ℕ). Some (type_of_code c)) (code_back n), shown_other kind), sym (code_back n), h.0.0, h.0.1) in
    one_word OldTypes n ns w (numbers_text OldTypes ns) plain (numbers_end OldTypes ns) is (type_words ns h.1)

from_start : (shown : Shown) (text ns : List ℕ) → AreBitWords shown text ns → AreBitWords shown (after_spaces text) ns
from_start shown text [] h = starts_twice text ∙ h
from_start shown text (n ∷ ns) h = rw (starts_twice text) h

no_bit : (shown : Shown) (n : ℕ) → IsBitWord shown generic_mark n → ⊥
no_bit Ports n is = let no : None ≡ Some n = is.0 in cc
no_bit OldTypes n is = no_type is.0 is.1
no_bit shown n is = is

no_mark : (shown : Shown) (text ns : List ℕ) → AreBitWords shown text ns → word (after_spaces text) ≢ generic_mark
no_mark shown text [] h e = let no : word [] ≡ generic_mark = ap word (sym h) ∙ e in cc
no_mark shown text (n ∷ ns) h e = no_bit shown n (subst (λ (w : List ℕ). IsBitWord shown w n) e h.1)

pub ports_back : (own : List ℕ) → IsOctets own → FieldComesBack (Octets Ports) (octets own)
ports_back own h origin way printed rest (is, e) end =
    let none : rest ≡ [] = end.0 refl in
    let tests = and_parts (nat_le (length own) 8192) (ends_in_no_zero own) is in
    let ns = octets_codes 0 own in
    let text = numbers_text Ports ns in
    let words = port_words ns (ports_are own (leb-true (length own) 8192 tests.0)) in
    let reads : AreBits Ports (after_spaces text) own = (ns, from_start Ports text ns words, sym (bits_make own h tests.1)) in
    rw (none, e, append-nil) (((own, reads, refl), refl), no_mark Ports text ns words, numbers_end Ports ns)

pub old_types_back : (own : List ℕ) → IsOctets own → FieldComesBack (Octets OldTypes) (octets own)
old_types_back own h origin way printed rest (is, e) end =
    let none : rest ≡ [] = end.0 refl in
    let tests = and_parts (nat_le (length own) 16) (nat_lt (slice_index own 0) 128 && ends_in_no_zero own) is in
    let more = and_parts (nat_lt (slice_index own 0) 128) (ends_in_no_zero own) tests.1 in
    let ns = octets_codes 0 own in
    let text = numbers_text OldTypes ns in
    let words = type_words ns (old_types_are own (leb-true (length own) 16 tests.0) (ltb-true (slice_index own 0) 128 more.0)) in
    let reads : AreBits OldTypes (after_spaces text) own = (ns, from_start OldTypes text ns words, sym (bits_make own h more.1)) in
    rw (none, e, append-nil) (((own, reads, refl), refl), no_mark OldTypes text ns words, numbers_end OldTypes ns)
