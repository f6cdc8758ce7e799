-- Types of bitmaps, one after another.
use Rattle.std.proofs.Common.{◌≡◌, ◌≢◌, ◌≤◌, ◌<◌, ℕ, zero, suc, ◌+◌, ◌*◌, true, false, List, [], ◌∷◌, ◌++◌, length, take, drop, refl, sym, ap, ◌∙◌, subst, arith, append_assoc, append-nil, length-append}
use Rattle.std.specs.Prelude.{Option, Some, None, option_map, flat_map, nat_le}
use Rattle.std.specs.Iterator.{Drains}
use Rattle.std.specs.Vec.Iter.{into_iter_items, into_iter_len, into_iter_steps}
use Rattle.std.specs.declared.vec.IntoIter.{IntoIter}
use Rattle.std.proofs.lemmas.Iterator.{items_from_drains}
use Rattle.std.proofs.lemmas.Iterator.Adapters.{YieldsList-from_vec}
use Rattle.std.proofs.lemmas.List.{map-id, take_at, drop_at}
use Rattle.std.proofs.lemmas.Bool.{le-leb, lt-leb}
use Rattle.std.proofs.lemmas.List.Concat.{flat_map-append}
use Rattle.dnw_base.specs.declared.record_type.RecordType.{RecordType}
use Rattle.dnw_data.specs.TypeSets.{bits, bit_codes, octets_codes, window_size}
use Rattle.dnw_data.proofs.Windows.{bits_next}
use Rattle.dnw_base.specs.RecordTypes.{registered_type, type_of_text}
use Rattle.dnw_zone_values.specs.Inside.Steps.{IsSpaced}
use Rattle.dnw_zone_data.specs.Words.{after_spaces, word, after_word}
use Rattle.dnw_zone_data.specs.TypeLists.{is_window, codes_within, code_text, codes_text, PrintsTypes, IsTypeWord, AreTypeWords}
use Rattle.dnw_data.specs.declared.kind.Shown.{Shown}
use Rattle.dnw_zone_data.specs.Bitmaps.{number_text, numbers_text}
use Rattle.dnw_zone_data.specs.Appending.{AppendedInPart}
use Rattle.dnw_zone_data.specs.Inside.TypeWords.{LeadToTypes}

-- the iterator of a vector gives its elements
pub vec_gave : {A Z : Type 0} (it : IntoIter A Z) (all xs : List A) → into_iter_items it ≡ all → into_iter_len it ≡ length all
    → Drains into_iter_steps it xs → xs ≡ all
vec_gave it all xs items len (rest, (last, yielded, ended)) =
    sym (map-id xs) ∙ items_from_drains xs (last, yielded, λ _. (rest, ended)) (YieldsList-from_vec all items len)

-- codes before others
abbrev pub after : List ℕ → Option (List ℕ) → Option (List ℕ)
after found codes = option_map (λ own. found ++ own) codes

pub after_nil : (codes : Option (List ℕ)) → codes ≡ after [] codes
after_nil None = refl
after_nil (Some own) = refl

pub after_all : (found own : List ℕ) (codes : Option (List ℕ)) → after found (after own codes) ≡ after (found ++ own) codes
after_all found own None = refl
after_all found own (Some others) = ap Some (sym (append_assoc found own others))

pub codes_append : (a b : List ℕ) → codes_text (a ++ b) ≡ codes_text a ++ codes_text b
codes_append a b = flat_map-append code_text a b

pub numbers_append : (shown : Shown) (a b : List ℕ) → numbers_text shown (a ++ b) ≡ numbers_text shown a ++ numbers_text shown b
numbers_append shown a b = flat_map-append (number_text shown) a b

-- ---- words

pub types_more : (text : List ℕ) (done : List RecordType) (left : List ℕ) (record_type : RecordType) → LeadToTypes text done left → left ≢ [] → IsTypeWord (word left) record_type
    → LeadToTypes text (done ++ record_type ∷ []) (after_spaces (after_word left))
types_more text [] left record_type h some is = (
  subst (λ (xs : List ℕ). xs ≢ []) h some,
  subst (λ (xs : List ℕ). IsTypeWord (word xs) record_type) h is,
  ap (λ (xs : List ℕ). after_spaces (after_word xs)) h,
)
types_more text (d ∷ done) left record_type h some is = (h.0, h.1, types_more (after_word (after_spaces text)) done left record_type h.2 some is)

pub types_end : (text : List ℕ) (done : List RecordType) (left : List ℕ) → LeadToTypes text done left → left ≡ [] → AreTypeWords text done
types_end text [] left h none = sym h ∙ none
types_end text (d ∷ done) left h none = (h.0, h.1, types_end (after_word (after_spaces text)) done left h.2 none)

pub types_stop : (text : List ℕ) (done kinds : List RecordType) (left : List ℕ) → LeadToTypes text done left → left ≢ []
    → ((record_type : RecordType) → ¬ (IsTypeWord (word left) record_type)) → AreTypeWords text kinds → ⊥
types_stop text [] [] left h some none are = some (h ∙ are)
types_stop text [] (s ∷ kinds) left h some none are = none s (subst (λ (xs : List ℕ). IsTypeWord (word xs) s) (sym h) are.1)
types_stop text (d ∷ done) [] left h some none are = h.0 are
types_stop text (d ∷ done) (s ∷ kinds) left h some none are = types_stop (after_word (after_spaces text)) done kinds left h.2 some none are.2

-- no type has an empty name
pub word_some : (w : List ℕ) (record_type : RecordType) → IsTypeWord w record_type → 0 < length w
unfolding type_of_text registered_type
word_some [] record_type is = let no : None ≡ Some record_type = is.1 in cc
word_some (c ∷ w) record_type is = omega arith

-- ---- windows

-- one bit more
pub bit_more : (shown : Shown) (old mid whole : List ℕ) (first octet bit : ℕ) → bit < 8 → mid ≡ old ++ numbers_text shown (bit_codes first octet bit)
    → old ++ numbers_text shown (flat_map (bit_codes first octet) (drop bit bits)) ≡ whole
    → mid ++ numbers_text shown (flat_map (bit_codes first octet) (drop (bit + 1) bits)) ≡ whole
bit_more shown old mid whole first octet bit within e so_far =
    let own = bit_codes first octet bit in
    let others = flat_map (bit_codes first octet) (drop (bit + 1) bits) in
    ap (λ (xs : List ℕ). xs ++ numbers_text shown others) e ∙ append_assoc old (numbers_text shown own) (numbers_text shown others)
    ∙ ap (λ (xs : List ℕ). old ++ xs) (sym (numbers_append shown own others))
    ∙ ap (λ (xs : List ℕ). old ++ numbers_text shown (flat_map (bit_codes first octet) xs)) (sym (bits_next bit within)) ∙ so_far

-- a window, if there is one
window : (n number len : ℕ) (left rest more own others : List ℕ) → left ≡ number ∷ rest → rest ≡ len ∷ more → more ≡ own ++ others → length own ≡ len → is_window own ≡ true
    → codes_within (suc n) left ≡ after (octets_codes (window_size * number) own) (codes_within n others)
window n number len left rest more own others first second whole size is =
    let front : take len more ≡ own = ap (take len) whole ∙ take_at own others len size in
    let back : drop len more ≡ others = ap (drop len) whole ∙ drop_at own others len size in
    let fits : nat_le len (length more) ≡ true = le-leb len (length more) (omega (arith, size, ap length whole, length-append own others)) in
    rw (first, second, fits, front, back, is) refl

-- one window more
pub window_more : (all left rest more own others : List ℕ) (found : List ℕ) (n number len : ℕ) → codes_within (length all) all ≡ after found (codes_within n left)
    → length left ≤ n → left ≡ number ∷ rest → rest ≡ len ∷ more → more ≡ own ++ others → length own ≡ len → is_window own ≡ true
    → (m : ℕ) × (length others ≤ m) × (codes_within (length all) all ≡ after (found ++ octets_codes (window_size * number) own) (codes_within m others))
window_more all left rest more own others found zero number len so_far few first second whole size is = absurd (omega (arith, few, ap length first))
window_more all left rest more own others found (suc n) number len so_far few first second whole size is = (
  n,
  omega (arith, few, ap length first, ap length second, ap length whole, length-append own others),
  so_far ∙ ap (after found) (window n number len left rest more own others first second whole size is) ∙ after_all found (octets_codes (window_size * number) own) (codes_within n others),
)

-- no window
pub no_number : (n number : ℕ) (left rest : List ℕ) → length left ≤ n → left ≡ number ∷ rest → rest ≡ [] → codes_within n left ≡ None
no_number zero number left rest few first none = absurd (omega (arith, few, ap length first))
no_number (suc n) number left rest few first none = rw (first, none) refl

pub no_octets : (n number len : ℕ) (left rest more : List ℕ) → length left ≤ n → left ≡ number ∷ rest → rest ≡ len ∷ more → length more < len → codes_within n left ≡ None
no_octets zero number len left rest more few first second short = absurd (omega (arith, few, ap length first))
no_octets (suc n) number len left rest more few first second short =
    let fits : nat_le len (length more) ≡ false = lt-leb len (length more) short in
    rw (first, second, fits) refl

pub no_window : (n number len : ℕ) (left rest more own others : List ℕ) → length left ≤ n → left ≡ number ∷ rest → rest ≡ len ∷ more → more ≡ own ++ others
    → length own ≡ len → is_window own ≡ false → codes_within n left ≡ None
no_window zero number len left rest more own others few first second whole size is = absurd (omega (arith, few, ap length first))
no_window (suc n) number len left rest more own others few first second whole size is =
    let front : take len more ≡ own = ap (take len) whole ∙ take_at own others len size in
    let fits : nat_le len (length more) ≡ true = le-leb len (length more) (omega (arith, size, ap length whole, length-append own others)) in
    rw (first, second, fits, front, is) refl

spaced : (codes : List ℕ) → IsSpaced (codes_text codes)
spaced [] = tt
spaced (code ∷ codes) = refl

pub no_types : (all left : List ℕ) (found : List ℕ) (n : ℕ) → codes_within (length all) all ≡ after found (codes_within n left)
    → codes_within n left ≡ None → (old new : List ℕ) → new ≡ old ++ codes_text found → AppendedInPart (PrintsTypes all) old new false
no_types all left found n so_far none old new e =
    (λ text own. let no : None ≡ Some own.0 = ap (after found) (sym none) ∙ sym so_far ∙ own.1 in cc, (codes_text found, spaced found, e))

pub all_types : (all left old new : List ℕ) (found : List ℕ) (n : ℕ) → codes_within (length all) all ≡ after found (codes_within n left)
    → left ≡ [] → new ≡ old ++ codes_text found → AppendedInPart (PrintsTypes all) old new true
all_types all left old new found n so_far none e =
    let end : codes_within n left ≡ Some [] = ap (codes_within n) none in
    let whole : codes_within (length all) all ≡ Some found = so_far ∙ ap (after found) end ∙ ap Some (append-nil found) in
    (codes_text found, (found, whole, refl), e)
