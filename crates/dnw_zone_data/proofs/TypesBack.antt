-- A bitmap that is printed as types is the bitmap of these types.
use Rattle.std.proofs.Common.{◌≡◌, ◌≢◌, ◌≤◌, ◌<◌, ℕ, zero, suc, ◌+◌, ◌-◌, ◌*◌, ◌==◌, ◌&&◌, true, false, List, [], ◌∷◌, ◌++◌, length, take, drop, map, slice_index, refl, sym, ap, ◌∙◌, subst, arith, append-nil, length-append, length-drop, inl, inr}
use Rattle.std.specs.Prelude.{nat_eq, nat_le, not, Some, None, flat_map, Bool}
use Rattle.std.specs.List.{AllByRecursion, dedup_from}
use Rattle.std.specs.List.Sorted.{IsStrictlySortedBy}
use Rattle.std.proofs.lemmas.Bool.{and_parts, cases_Bool, eqb-false, leb-true}
use Rattle.std.proofs.lemmas.List.{take_all, take-append-drop, length-take-le}
use Rattle.dnw_base.specs.declared.record_type.RecordType.{RecordType}
use Rattle.dnw_base.specs.RecordTypes.{registered_type, type_cmp, type_code, type_of_code, type_of_text}
use Rattle.dnw_data.specs.declared.kind.Kind.TheVariants.{List as ListOf}
use Rattle.dnw_data.specs.declared.kind.ListKind.TheVariants as lists
use Rattle.dnw_data.specs.Lists.{fault_within, list_fault}
use Rattle.dnw_data.specs.Values.{types, items}
use Rattle.dnw_data.specs.TypeSets.{Window, window, window_bytes, windows_codes, octets_codes, set_codes, EndsInBit, NumbersFrom, IsWritten}
use Rattle.dnw_data.proofs.Sets.{settled_already}
use Rattle.dnw_zone_values.specs.Octets.{IsOctets}
use Rattle.dnw_zone_values.proofs.ParamTextsBack.{drop_fit, map_some}
use Rattle.dnw_zone_data.specs.Words.{is_end, word, after_spaces}
use Rattle.dnw_zone_data.specs.TypeLists.{is_window, shown_type, codes_within, codes_text, IsTypeWord, AreTypeWords, AreBitmap, AreTypes}
use Rattle.dnw_zone_data.proofs.CodesWithin.{Within, ascending_types, octets_within, once, within_less}
use Rattle.dnw_zone_data.specs.Generic.{generic_mark}
use Rattle.dnw_zone_data.specs.DataTextLaws.{FieldComesBack}
use Rattle.dnw_data.proofs.Codes.{code_back}
use Rattle.dnw_zone_data.proofs.Items.{item_first, starts_twice}
use Rattle.dnw_zone_data.proofs.Plain.{plain_starts, plain_word, plain_after, plain_utf8}
use Rattle.dnw_zone_data.proofs.FieldsBack.{shown_back, shown_other, shown_plain, shown_some}

-- ---- the windows of a bitmap

ends : (octets : List ℕ) (n : ℕ) → length octets ≡ suc n → (slice_index octets n == 0) ≡ false → EndsInBit octets
ends [] n size h = tt
ends (o ∷ []) n size h =
    let last : n ≡ 0 = omega (arith, size) in eqb-false o 0 (subst (λ (i : ℕ). (slice_index (o ∷ []) i == 0) ≡ false) last h)
ends (o ∷ next ∷ octets) zero size h = absurd (omega (arith, size))
ends (o ∷ next ∷ octets) (suc n) size h = ends (next ∷ octets) n (omega (arith, size)) h

no_true : (b : Bool) → not b ≡ true → b ≡ false
no_true true h = cc
no_true false h = refl

-- a window that is printed is one that is written
is_written : (number : ℕ) (octets : List ℕ) → 1 ≤ length octets → is_window octets ≡ true → IsWritten (window number octets)
is_written number octets some is =
    let parts = and_parts (nat_le (length octets) 32) (not (slice_index octets (length octets - 1) == 0)) is in
    record { some = some; few = leb-true (length octets) 32 parts.0; no_longer = ends octets (length octets - 1) (omega (arith, some)) (no_true _ parts.1) }

-- the octets are the windows of these codes
abbrev AreWindowsOf : ℕ → List ℕ → List ℕ → Type 0
AreWindowsOf least own codes =
    (ws : List Window) × (own ≡ flat_map window_bytes ws) × NumbersFrom least ws × AllByRecursion IsWritten ws × (windows_codes ws ≡ codes) × Within (256 * least) codes

one_window : (least number : ℕ) (own rest codes others : List ℕ) → least ≤ number → number < 256 → IsWritten (window number own)
    → codes ≡ octets_codes (256 * number) own ++ others → AreWindowsOf (number + 1) rest others
    → AreWindowsOf least (number ∷ length own ∷ (own ++ rest)) codes
one_window least number own rest codes others low high is e (ws, spelled, up, all, same, within) =
    let first = 256 * number in
    let far = within_less (first + 8 * length own) (256 * (number + 1)) others (omega (arith, is.few)) within in
    let near = octets_within first own others (omega (arith, high, is.few)) far in (
      window number own ∷ ws,
      ap (λ (xs : List ℕ). number ∷ length own ∷ (own ++ xs)) spelled,
      (low, up),
      (is, all),
      ap (λ (xs : List ℕ). octets_codes first xs ++ windows_codes ws) (take_all 32 own is.few) ∙ ap (λ (xs : List ℕ). octets_codes first own ++ xs) same ∙ sym e,
      within_less (256 * least) first codes (omega (arith, low)) (subst (Within first) (sym e) near),
    )

windows : (n m least : ℕ) (own codes : List ℕ) → IsOctets own → length own ≤ n → fault_within n lists.Types least own ≡ None → codes_within m own ≡ Some codes
    → AreWindowsOf least own codes
windows n m least [] codes h few fine print = let none : [] ≡ codes = cc in ([], refl, tt, tt, none, subst (Within (256 * least)) none tt)
windows zero m least (number ∷ own) codes h few fine print = absurd (omega (arith, few))
windows (suc n) zero least (number ∷ own) codes h few fine print = absurd cc
windows (suc n) (suc m) least (number ∷ []) codes h few fine print = absurd cc
windows (suc n) (suc m) least (number ∷ len ∷ bytes) codes h few fine print = elim (cases_Bool (nat_le len (length bytes) && is_window (take len bytes))) [
  | inr other ↦ let wrong = rw other at print in absurd cc
  | inl is ↦
      let own = take len bytes in
      let (whole, may, others_fine) = item_first n least lists.Types number (len ∷ bytes) fine in
      let tests = and_parts (nat_le least number && nat_le 1 len) (nat_le len 32) may in
      let lows = and_parts (nat_le least number) (nat_le 1 len) tests.0 in
      let size : length own ≡ len = length-take-le len bytes (omega (arith, whole)) in
      let some : 1 ≤ length own = omega (arith, size, leb-true 1 len lows.1) in
      let (others, rest, e) = map_some (λ xs. octets_codes (256 * number) own ++ xs) (codes_within m (drop len bytes)) codes (rw is at print) in
      let skip : drop (2 + len) (number ∷ len ∷ bytes) ≡ drop len bytes = ap (λ (k : ℕ). drop k (number ∷ len ∷ bytes)) (let two : 2 + len ≡ suc (suc len) = omega arith in two) in
      let on = subst (λ (xs : List ℕ). fault_within n lists.Types (number + 1) xs ≡ None) skip others_fine in
      let more = windows n m (number + 1) (drop len bytes) others (drop_fit len bytes (λ i. h (suc (suc i)))) (omega (arith, few, length-drop len bytes)) on rest in
      let good = is_written number own some (and_parts (nat_le len (length bytes)) (is_window own) is).1 in
      let one = one_window least number own (drop len bytes) codes others (leb-true least number lows.0) (h 0) good e more in
      subst (λ (xs : List ℕ). AreWindowsOf least xs codes) (ap (λ (k : ℕ). number ∷ k ∷ (own ++ drop len bytes)) size ∙ ap (λ (xs : List ℕ). number ∷ len ∷ xs) (take-append-drop len bytes)) one
]

-- ---- the types of codes

codes_back : (codes : List ℕ) → map type_code (map type_of_code codes) ≡ codes
codes_back [] = refl
codes_back (code ∷ codes) = rw (code_back code) (ap (λ (xs : List ℕ). code ∷ xs) (codes_back codes))

set_is : (least : ℕ) (codes : List ℕ) → Within least codes → set_codes (map type_of_code codes) ≡ codes
set_is least [] h = refl
set_is least (code ∷ codes) h =
    ap (λ (xs : List ℕ). dedup_from nat_eq (type_code (type_of_code code)) xs) (codes_back codes)
    ∙ ap (λ (c : ℕ). dedup_from nat_eq c codes) (code_back code) ∙ once code codes h.2

ascend : (least : ℕ) (codes : List ℕ) → Within least codes → IsStrictlySortedBy type_cmp (map type_of_code codes)
ascend least codes h = ascending_types least (map type_of_code codes) (subst (Within least) (sym (codes_back codes)) h)

bitmap : (least : ℕ) (own codes : List ℕ) → AreWindowsOf 0 own codes → AreBitmap (map type_of_code codes) own
bitmap least own codes (ws, spelled, up, all, same, within) =
    let set = map type_of_code codes in (
      set,
      settled_already set (ascend 0 codes within),
      record { windows = ws; spelled = spelled; ascending = up; written = all; same = same ∙ sym (set_is 0 codes within) },
    )

-- ---- the words of types

pub types_end : (codes : List ℕ) → is_end (codes_text codes) ≡ true
types_end [] = refl
types_end (code ∷ codes) = refl

types_words : (least : ℕ) (codes : List ℕ) → Within least codes → AreTypeWords (codes_text codes) (map type_of_code codes)
types_words least [] h = refl
types_words least (code ∷ codes) h =
    let kind = type_of_code code in
    let w = shown_type kind in
    let rest = codes_text codes in
    let few : type_code kind < 65536 = omega (arith, code_back code, h.1) in
    let plain = shown_plain kind few in
    let is : IsTypeWord w kind = (plain_utf8 w plain, shown_back kind few ∙ ap (λ (c : ℕ). Some (type_of_code c)) (code_back code), shown_other kind) in
    let end = types_end codes in
    rw (plain_starts w rest plain (shown_some kind), plain_word w rest plain end, plain_after w rest plain end)
    ((λ none. omega (arith, shown_some kind, ap length none, length-append w rest)), is, types_words (code + 1) codes h.2)

from_start : (text : List ℕ) (kinds : List RecordType) → AreTypeWords text kinds → AreTypeWords (after_spaces text) kinds
from_start text [] h = starts_twice text ∙ h
from_start text (kind ∷ kinds) h = rw (starts_twice text) h

pub no_type : (record_type : RecordType) → IsTypeWord generic_mark record_type → ⊥
unfolding type_of_text registered_type
no_type record_type is = let no : None ≡ Some record_type = is.1 in cc

types_no_mark : (text : List ℕ) (kinds : List RecordType) → AreTypeWords text kinds → word (after_spaces text) ≢ generic_mark
types_no_mark text [] h e = let no : word [] ≡ generic_mark = ap word (sym h) ∙ e in cc
types_no_mark text (kind ∷ kinds) h e = no_type kind (subst (λ (w : List ℕ). IsTypeWord w kind) e h.1)

pub types_back : (own : List ℕ) → IsOctets own → list_fault lists.Types own ≡ None → FieldComesBack (ListOf lists.Types) (types (items lists.Types own))
unfolding list_fault
types_back own h fine origin way printed rest (codes, print, e) end =
    let none : rest ≡ [] = end.0 refl in
    let there = windows (length own) (length own) 0 own codes h (omega arith) fine print in
    let words = types_words 0 codes there.5 in
    let is : AreTypes (after_spaces (codes_text codes)) (types (items lists.Types own)) =
    (map type_of_code codes, own, from_start (codes_text codes) (map type_of_code codes) words, bitmap 0 own codes there, refl) in
    rw (none, e, append-nil) ((is, refl), types_no_mark (codes_text codes) (map type_of_code codes) words, types_end codes)
