-- What is printed of prefixes is parsed as them, and a text is one list of prefixes at most.
use Rattle.std.proofs.Common.{◌≡◌, ◌≢◌, ℕ, zero, suc, ◌<◌, ◌==◌, true, false, List, [], ◌∷◌, ◌++◌, length, take, drop, slice_index, codes, decimal, refl, sym, ap, ◌∙◌, subst, arith, length-append, inl, inr}
use Rattle.std.specs.Prelude.{Option, Some, None, flat_map, nat_le, Bool}
use Rattle.std.specs.Net.Addr.{segments_of}
use Rattle.std.specs.Net.Text.{ipv4_text, ipv6_text}
use Rattle.std.proofs.lemmas.Bool.{and_parts, cases_Bool, cond_both}
use Rattle.std.proofs.lemmas.List.{take-append-drop}
use Rattle.dnw_data.specs.declared.kind.ListKind.TheVariants as lists
use Rattle.dnw_data.specs.Values.{FieldValue, prefixes, items}
use Rattle.dnw_zone_values.specs.Octets.{IsOctets}
use Rattle.dnw_zone_values.specs.Prefixes.{with_zeros, negation_text, prefix_address_text, shown_prefix_text, is_shown, prefix_text, prefix_family, negates, slash, IsPrefixText}
use Rattle.dnw_zone_values.proofs.ParamTextsBack.{take_fit, drop_fit, segments_fit}
use Rattle.dnw_zone_values.proofs.PrefixesBack.{one_prefix}
use Rattle.dnw_zone_values.proofs.PrefixTextsBack.{is_address, all_address, ipv4_address, ipv6_address, padded_fit, prefix_back}
use Rattle.dnw_zone_data.specs.Words.{is_end, word, after_word, after_spaces}
use Rattle.dnw_zone_data.specs.Generic.{generic_mark}
use Rattle.dnw_zone_data.specs.PrefixLists.{first_prefix_size, spaced_before, prefixes_within, PrintsPrefixes, ArePrefixWords, ArePrefixes}
use Rattle.dnw_zone_data.proofs.Items.{starts_twice}
use Rattle.dnw_zone_data.proofs.Plain.{is_plain, plain_by_tests, all_plain, plain_starts, plain_word, plain_after, plain_append, decimal_plain}

-- ---- a prefix is a plain word

address_one : (c : ℕ) → is_address c ≡ true → is_plain c ≡ true
address_one c h = plain_by_tests c (grind arith) (grind arith) (grind arith) (grind arith) (grind arith) (grind arith) (grind arith)

address_plain : (t : List ℕ) → all_address t ≡ true → all_plain t ≡ true
address_plain [] h = refl
address_plain (c ∷ t) h = let parts = and_parts (is_address c) (all_address t) h in rw (address_one c parts.0) (address_plain t parts.1)

family_plain : (f : ℕ) (xs : List ℕ) → IsOctets xs → (all_plain (prefix_address_text f xs) ≡ true) × (0 < length (prefix_address_text f xs))
family_plain f xs h =
    let v4 = ipv4_text (with_zeros 4 xs) in
    let s = segments_of (with_zeros 16 xs) in
    let v6 = ipv6_text s in
    cond_both (f == 1) (codes "1:" ++ v4) (codes "2:" ++ v6) (λ t. (all_plain t ≡ true) × (0 < length t))
    (λ _. (address_plain v4 (ipv4_address (with_zeros 4 xs) (padded_fit 4 xs h)), omega arith))
    (λ _. (address_plain v6 (ipv6_address s (segments_fit (with_zeros 16 xs) (padded_fit 16 xs h))), omega arith))

negation_plain : (n : Bool) → all_plain (negation_text n) ≡ true
negation_plain false = refl
negation_plain true = refl

pub prefix_plain : (own text : List ℕ) → IsOctets own → prefix_text own ≡ Some text → (all_plain text ≡ true) × (0 < length text)
prefix_plain own text h e = elim (cases_Bool (is_shown own)) [
  | inl shown ↦
      let w = rw shown at e in
      let same : shown_prefix_text own ≡ text = cc in
      let (plain, some) = family_plain (prefix_family own) (drop 4 own) (drop_fit 4 own h) in
      let a = prefix_address_text (prefix_family own) (drop 4 own) in
      let size = slash ∷ decimal (slice_index own 2) in
      let last : all_plain size ≡ true = decimal_plain (slice_index own 2) (omega (arith, h 2)) in
      let all = plain_append (negation_text (negates own)) (a ++ size) (negation_plain (negates own)) (plain_append a size plain last) in
      subst (λ (t : List ℕ). (all_plain t ≡ true) × (0 < length t)) same (all, omega (arith, some, length-append (negation_text (negates own)) (a ++ size), length-append a size))
  | inr other ↦ let wrong = rw other at e in absurd cc
]

-- ---- the words

abbrev pub HasWords : List ℕ → List ℕ → Type 0
HasWords own text = (listed : List (List ℕ)) × ArePrefixWords text listed × (own ≡ flat_map (λ (p : List ℕ). p) listed) × (is_end text ≡ true)

pub spaced_parts : (a b : Option (List ℕ)) (text : List ℕ) → spaced_before a b ≡ Some text → (x : List ℕ) × (y : List ℕ) × (a ≡ Some x) × (b ≡ Some y) × (32 ∷ (x ++ y) ≡ text)
spaced_parts None None text e = absurd cc
spaced_parts None (Some y) text e = absurd cc
spaced_parts (Some x) None text e = absurd cc
spaced_parts (Some x) (Some y) text e = let same : 32 ∷ (x ++ y) ≡ text = cc in (x, y, refl, refl, same)

one_more : (own rest x y : List ℕ) (listed : List (List ℕ)) → all_plain x ≡ true → 0 < length x → is_end y ≡ true → IsPrefixText x own → ArePrefixWords y listed
    → ArePrefixWords (32 ∷ (x ++ y)) (own ∷ listed)
one_more own rest x y listed plain some end is words =
    rw (plain_starts x y plain some, plain_word x y plain end, plain_after x y plain end) ((λ none. omega (arith, some, ap length none, length-append x y)), is, words)

pub prefix_words : (n : ℕ) (own text : List ℕ) → IsOctets own → prefixes_within n own ≡ Some text → HasWords own text
prefix_words n [] text h print = let none : [] ≡ text = cc in ([], subst (λ (t : List ℕ). after_spaces t ≡ []) none refl, refl, subst (λ (t : List ℕ). is_end t ≡ true) none refl)
prefix_words zero (o ∷ own) text h print = absurd cc
prefix_words (suc n) (o ∷ own) text h print =
    let all = o ∷ own in
    let size = first_prefix_size all in
    elim (cases_Bool (nat_le size (length all))) [
      | inr other ↦ let wrong = rw other at print in absurd cc
      | inl fits ↦
          let (x, y, first, others, e) = spaced_parts (prefix_text (take size all)) (prefixes_within n (drop size all)) text (rw fits at print) in
          let (listed, words, whole, end) = prefix_words n (drop size all) y (drop_fit size all h) others in
          let fit = take_fit size all h in
          let (plain, some) = prefix_plain (take size all) x fit first in
          let is = prefix_back (take size all) x fit first in (
            take size all ∷ listed,
            subst (λ (t : List ℕ). ArePrefixWords t (take size all ∷ listed)) e (one_more (take size all) (drop size all) x y listed plain some end is words),
            sym (take-append-drop size all) ∙ ap (λ (xs : List ℕ). take size all ++ xs) whole,
            subst (λ (t : List ℕ). is_end t ≡ true) e refl,
          )
    ]

pub from_start : (text : List ℕ) (listed : List (List ℕ)) → ArePrefixWords text listed → ArePrefixWords (after_spaces text) listed
from_start text [] h = starts_twice text ∙ h
from_start text (own ∷ listed) h = rw (starts_twice text) h

no_prefix : (own : List ℕ) → IsPrefixText generic_mark own → ⊥
no_prefix own is = omega (arith, is.1.0.1.0)

pub prefixes_no_mark : (text : List ℕ) (listed : List (List ℕ)) → ArePrefixWords text listed → word (after_spaces text) ≢ generic_mark
prefixes_no_mark text [] h e = let no : word [] ≡ generic_mark = ap word (sym h) ∙ e in cc
prefixes_no_mark text (own ∷ listed) h e = no_prefix own (subst (λ (w : List ℕ). IsPrefixText w own) e h.1)

-- what is printed of prefixes is parsed as they are
pub prefixes_read : (own text : List ℕ) → IsOctets own → PrintsPrefixes own text
    → ArePrefixes (after_spaces text) (prefixes (items lists.Prefixes own)) × (word (after_spaces text) ≢ generic_mark) × (is_end text ≡ true)
prefixes_read own text h print =
    let (listed, words, whole, end) = prefix_words (length own) own text h print in
    ((listed, from_start text listed words, ap (λ (xs : List ℕ). prefixes (items lists.Prefixes xs)) whole), prefixes_no_mark text listed words, end)

-- ---- one list at most

one_words : (left : List ℕ) (a b : List (List ℕ)) → ArePrefixWords left a → ArePrefixWords left b → a ≡ b
one_words left [] [] x y = refl
one_words left [] (b ∷ bs) x y = absurd (y.0 x)
one_words left (a ∷ more) [] x y = absurd (x.0 y)
one_words left (a ∷ more) (b ∷ bs) x y =
    let first = one_prefix (word (after_spaces left)) a b x.1 y.1 in
    let others = one_words (after_word (after_spaces left)) more bs x.2 y.2 in
    rw (first, others) refl

pub one_prefixes : (left : List ℕ) (v w : FieldValue) → ArePrefixes left v → ArePrefixes left w → v ≡ w
one_prefixes left v w x y =
    x.2 ∙ ap (λ (listed : List (List ℕ)). prefixes (items lists.Prefixes (flat_map (λ (p : List ℕ). p) listed))) (one_words left x.0 y.0 x.1 y.1) ∙ sym y.2
