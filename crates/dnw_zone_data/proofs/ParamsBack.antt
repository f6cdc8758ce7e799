-- Parameters that are printed one after another are read as these parameters.
use Rattle.std.proofs.Common.{◌≡◌, ◌≢◌, ◌≤◌, ◌<◌, ℕ, zero, suc, ◌+◌, ◌==◌, true, false, List, [], ◌∷◌, ◌++◌, length, take, drop, refl, sym, ap, ◌∙◌, subst, arith, append_assoc, append-nil, length-append, length-drop, inl, inr}
use Rattle.std.specs.Prelude.{nat_le, slice_index, Some, None, flat_map}
use Rattle.std.specs.List.{position_or_len}
use Rattle.std.specs.Int.{w16, from_be_bytes, to_be_bytes}
use Rattle.std.proofs.lemmas.Bool.{cases_Bool, le-leb, leb-true, and_parts}
use Rattle.std.proofs.lemmas.List.{take-append-drop, length-take-le, take_at, drop_at}
use Rattle.std.proofs.lemmas.Nat.{be_bytes_2}
use Rattle.dnw_data.specs.declared.kind.Kind.TheVariants.{List as ListOf}
use Rattle.dnw_data.specs.declared.kind.ListKind.TheVariants as lists
use Rattle.dnw_data.specs.Lists.{fault_within, list_fault}
use Rattle.dnw_data.specs.Values.{params, items}
use Rattle.dnw_zone_values.specs.Octets.{IsOctets}
use Rattle.dnw_zone_values.specs.Strings.{quote, string_text}
use Rattle.dnw_zone_values.specs.ParamKeys.{named_key}
use Rattle.dnw_zone_values.specs.ParamLaws.{IsParamValue}
use Rattle.dnw_zone_values.specs.Params.{ParamValue, param_wire, params_wire, in_key_order}
use Rattle.dnw_zone_values.specs.Mandatory.{keeps_mandatory}
use Rattle.dnw_zone_values.specs.ParamTexts.{param_text, params_within}
use Rattle.dnw_zone_values.specs.ParamWords.{IsParam, is_equals, key_part}
use Rattle.dnw_zone_values.specs.Inside.Steps.{AreBelow}
use Rattle.dnw_zone_values.proofs.Ascending.{with_last}
use Rattle.dnw_zone_values.proofs.ParamTextsBack.{IsShaped, all_key, is_key, no_equals, below_more, below_weaker, drop_fit, map_some, param_shaped, params as param-back, take_fit}
use Rattle.dnw_zone_values.proofs.Steps.{word_some}
use Rattle.dnw_zone_data.specs.ParamLists.{AreParamWords, AreParams}
use Rattle.dnw_zone_data.specs.Words.{is_end, is_word_end, param_len, param_word, word_len, word, after_spaces}
use Rattle.dnw_zone_data.specs.Generic.{generic_mark}
use Rattle.dnw_zone_data.specs.DataTextLaws.{FieldComesBack}
use Rattle.dnw_zone_data.proofs.FieldsBack.{string_len}
use Rattle.dnw_zone_data.proofs.Items.{item_first, starts_twice}
use Rattle.dnw_zone_data.proofs.Plain.{all_plain, is_plain, plain_goes_on, plain_no_space, plain_word_len, space_ends}

-- ---- the parameters of octets

abbrev spaced : ParamValue → List ℕ
spaced p = 32 ∷ param_text p.key p.octets

-- their keys ascend from the least on
abbrev Ascend : ℕ → List ParamValue → Type 0
Ascend least [] = Unit {0}
Ascend least (p ∷ ps) = (least ≤ p.key) × IsParamValue p × Ascend (p.key + 1) ps

-- the octets are these parameters, and this is their text
abbrev ArePrinted : ℕ → List ℕ → List ℕ → Type 0
ArePrinted least own text = (ps : List ParamValue) × (own ≡ params_wire ps) × (text ≡ flat_map spaced ps) × Ascend least ps

two_fit : (a b : ℕ) → a < 256 → b < 256 → IsOctets (a ∷ b ∷ [])
two_fit a b ha hb zero = ha
two_fit a b ha hb (suc zero) = hb
two_fit a b ha hb (suc (suc i)) = omega arith

one_param : (least key : ℕ) (a b c d : ℕ) (own rest text others : List ℕ) → least ≤ key → IsOctets own → a < 256 → b < 256 → c < 256 → d < 256
    → key ≡ from_be_bytes w16 (a ∷ b ∷ []) → length own ≡ from_be_bytes w16 (c ∷ d ∷ []) → text ≡ 32 ∷ param_text key own ++ others
    → ArePrinted (key + 1) rest others → ArePrinted least (a ∷ b ∷ c ∷ d ∷ (own ++ rest)) text
one_param least key a b c d own rest text others low fit ha hb hc hd k size e (ps, wire, print, up) =
    let p : ParamValue = record { key = key; octets = own } in
    let first : to_be_bytes w16 key ≡ a ∷ b ∷ [] = be_bytes_2 (a ∷ b ∷ []) key refl (two_fit a b ha hb) k in
    let second : to_be_bytes w16 (length own) ≡ c ∷ d ∷ [] = be_bytes_2 (c ∷ d ∷ []) (length own) refl (two_fit c d hc hd) size in
    let head : param_wire p ≡ a ∷ b ∷ c ∷ d ∷ own =
    ap (λ (xs : List ℕ). xs ++ (to_be_bytes w16 (length own) ++ own)) first ∙ ap (λ (xs : List ℕ). a ∷ b ∷ (xs ++ own)) second in (
      p ∷ ps,
      ap (λ (xs : List ℕ). a ∷ b ∷ c ∷ d ∷ (own ++ xs)) wire ∙ ap (λ (xs : List ℕ). xs ++ params_wire ps) (sym head),
      e ∙ ap (λ (xs : List ℕ). 32 ∷ param_text key own ++ xs) print,
      (low, (omega (arith, k, ha, hb), fit, omega (arith, size, hc, hd)), up),
    )

printed_are : (n m least : ℕ) (own text : List ℕ) → IsOctets own → length own ≤ n → fault_within n lists.Params least own ≡ None → params_within m own ≡ Some text
    → ArePrinted least own text
printed_are n m least [] text h few fine print = let none : [] ≡ text = cc in ([], refl, sym none, tt)
printed_are n zero least (a ∷ own) text h few fine print = absurd cc
printed_are n (suc m) least (a ∷ []) text h few fine print = absurd cc
printed_are n (suc m) least (a ∷ b ∷ []) text h few fine print = absurd cc
printed_are n (suc m) least (a ∷ b ∷ c ∷ []) text h few fine print = absurd cc
printed_are zero (suc m) least (a ∷ b ∷ c ∷ d ∷ octets) text h few fine print = absurd (omega (arith, few))
printed_are (suc n) (suc m) least (a ∷ b ∷ c ∷ d ∷ octets) text h few fine print =
    let key = from_be_bytes w16 (a ∷ b ∷ []) in
    let len = from_be_bytes w16 (c ∷ d ∷ []) in
    let own = take len octets in
    let (whole, may, others_fine) = item_first n least lists.Params a (b ∷ c ∷ d ∷ octets) fine in
    let within : len ≤ length octets = omega (arith, whole) in
    let le : nat_le len (length octets) ≡ true = le-leb len (length octets) within in
    let (others, rest, e) = map_some (λ xs. 32 ∷ param_text key own ++ xs) (params_within m (drop len octets)) text (rw le at print) in
    let fit : IsOctets octets = λ i. h (suc (suc (suc (suc i)))) in
    let skip : drop (4 + len) (a ∷ b ∷ c ∷ d ∷ octets) ≡ drop len octets =
    ap (λ (k : ℕ). drop k (a ∷ b ∷ c ∷ d ∷ octets)) (let four : 4 + len ≡ suc (suc (suc (suc len))) = omega arith in four) in
    let on = subst (λ (xs : List ℕ). fault_within n lists.Params (key + 1) xs ≡ None) skip others_fine in
    let more = printed_are n m (key + 1) (drop len octets) others (drop_fit len octets fit) (omega (arith, few, length-drop len octets)) on rest in
    let one = one_param least key a b c d own (drop len octets) text others (leb-true least key may) (take_fit len octets fit) (h 0) (h 1) (h 2) (h 3) refl (length-take-le len octets within) e more in
    subst (λ (xs : List ℕ). ArePrinted least xs text) (ap (λ (xs : List ℕ). a ∷ b ∷ c ∷ d ∷ xs) (take-append-drop len octets)) one

sorted : (least : ℕ) (done ps : List ParamValue) → AreBelow least done → Ascend least ps → in_key_order done ps ≡ Some (done ++ ps)
sorted least done [] below up = ap Some (sym (append-nil done))
sorted least done (p ∷ ps) below up =
    rw (with_last p done (below_weaker least p.key done below up.0))
    (sorted (p.key + 1) (done ++ p ∷ []) ps (below_more least (p.key + 1) p done below (omega (arith, up.0)) (omega arith)) up.2
    ∙ ap Some (append_assoc done (p ∷ []) ps))

-- ---- the words of parameters

plain_ends : (front rest : List ℕ) → all_plain front ≡ true → is_end rest ≡ true → param_len (front ++ rest) ≡ length front
plain_ends [] [] plain end = refl
plain_ends [] (c ∷ cs) plain end = rw (space_ends c end) refl
plain_ends (c ∷ front) rest plain end =
    let parts = and_parts (is_plain c) (all_plain front) plain in
    let goes_on = plain_goes_on c parts.0 in
    elim (cases_Bool (c == 61)) [
      | inl equals ↦ rw (goes_on, equals) (let value = plain_word_len front rest parts.1 end in omega (arith, value))
      | inr other ↦ rw (goes_on, other) (let more = plain_ends front rest parts.1 end in omega (arith, more))
    ]

key_goes_on : (c : ℕ) → is_key c ≡ true → is_word_end c ≡ false
key_goes_on c h = grind arith

-- a key before a value
key_ends : (key value rest : List ℕ) → all_key key ≡ true → word_len (value ++ rest) ≡ length value → param_len (key ++ (61 ∷ (value ++ rest))) ≡ length key + 1 + length value
key_ends [] value rest is len = omega (arith, len)
key_ends (c ∷ key) value rest is len =
    let parts = and_parts (is_key c) (all_key key) is in
    let more = key_ends key value rest parts.1 len in
    rw (key_goes_on c parts.0, no_equals c parts.0) (omega (arith, more))

seam : (key value rest : List ℕ) → ((key ++ (61 ∷ [])) ++ value) ++ rest ≡ key ++ (61 ∷ (value ++ rest))
seam key value rest = append_assoc (key ++ (61 ∷ [])) value rest ∙ append_assoc key (61 ∷ []) (value ++ rest)

both_len : (key value : List ℕ) → length ((key ++ (61 ∷ [])) ++ value) ≡ length key + 1 + length value
both_len key value = length-append (key ++ (61 ∷ [])) value ∙ ap (λ (n : ℕ). n + length value) (length-append key (61 ∷ []))

key_and_value : (key value rest : List ℕ) → all_key key ≡ true → word_len (value ++ rest) ≡ length value
    → param_len (((key ++ (61 ∷ [])) ++ value) ++ rest) ≡ length ((key ++ (61 ∷ [])) ++ value)
key_and_value key value rest is len = ap param_len (seam key value rest) ∙ key_ends key value rest is len ∙ sym (both_len key value)

word_ends : (w rest : List ℕ) → IsShaped w → is_end rest ≡ true → param_len (w ++ rest) ≡ length w
word_ends w rest (front, back, e, plain, inl none) end =
    rw (e, none, append-nil front) (plain_ends front rest plain end)
word_ends w rest (front, back, e, plain, inr (own, key, fit, is, begins, are)) end =
    rw (e, is, begins) (key_and_value key (string_text own) rest are (string_len own rest fit))

shaped_starts : (front back rest : List ℕ) → all_plain front ≡ true → 0 < length (front ++ back) → ((c : ℕ) (cs : List ℕ) → back ≡ c ∷ cs → c ≡ quote)
    → after_spaces ((front ++ back) ++ rest) ≡ (front ++ back) ++ rest
shaped_starts [] [] rest plain some quoted = absurd (omega (arith, some))
shaped_starts [] (c ∷ cs) rest plain some quoted = rw (quoted c cs refl) refl
shaped_starts (c ∷ front) back rest plain some quoted = rw (plain_no_space c (and_parts (is_plain c) (all_plain front) plain).0) refl

starts : (w rest : List ℕ) → IsShaped w → 0 < length w → after_spaces (w ++ rest) ≡ w ++ rest
starts w rest (front, back, e, plain, inl none) some =
    rw e (shaped_starts front back rest plain (omega (arith, some, ap length e)) (λ c cs is. let no : [] ≡ c ∷ cs = sym none ∙ is in absurd cc))
starts w rest (front, back, e, plain, inr (own, key, fit, is, begins, are)) some =
    rw e (shaped_starts front back rest plain (omega (arith, some, ap length e)) (λ c cs also. let same : string_text own ≡ c ∷ cs = sym is ∙ also in cc))

params_end : (ps : List ParamValue) → is_end (flat_map spaced ps) ≡ true
params_end [] = refl
params_end (p ∷ ps) = refl

params_words : (least : ℕ) (ps : List ParamValue) → Ascend least ps → AreParamWords (flat_map spaced ps) ps
params_words least [] up = refl
params_words least (p ∷ ps) up =
    let w = param_text p.key p.octets in
    let rest = flat_map spaced ps in
    let is : IsParam w p = (param-back p up.1).0 in
    let some = word_some w p is in
    let shape = param_shaped p up.1 in
    let len = word_ends w rest shape (params_end ps) in
    rw (starts w rest shape some, take_at w rest _ (sym len), drop_at w rest _ (sym len))
    ((λ none. omega (arith, some, ap length none, length-append w rest)), is, params_words (p.key + 1) ps up.2)

from_start : (text : List ℕ) (ps : List ParamValue) → AreParamWords text ps → AreParamWords (after_spaces text) ps
from_start text [] h = starts_twice text ∙ h
from_start text (p ∷ ps) h = rw (starts_twice text) h

take_one : (n c : ℕ) (xs : List ℕ) → take (1 + n) (c ∷ xs) ≡ c ∷ take n xs
take_one n c xs = let one : 1 + n ≡ suc n = omega arith in ap (λ (k : ℕ). take k (c ∷ xs)) one

key_begins : (w : List ℕ) → key_part (92 ∷ w) ≡ 92 ∷ key_part w
key_begins w = take_one (position_or_len is_equals w) 92 w

no_param : (w : List ℕ) (p : ParamValue) → IsParam (92 ∷ w) p → ⊥
no_param w p is = elim is.3 [
  | inl named ↦
      let at : named_key (92 ∷ key_part w) ≡ Some p.key = sym (ap named_key (key_begins w)) ∙ named.0 in
      let no : None ≡ Some p.key = at in
      cc
  | inr generic ↦ let head : 92 ≡ 107 = ap (λ (xs : List ℕ). slice_index xs 0) (sym (key_begins w) ∙ generic.0.1) in absurd (omega (arith, head))
]

take_begins : (n c : ℕ) (cs : List ℕ) → take n (c ∷ cs) ≡ generic_mark → c ≡ 92
take_begins zero c cs e = let no : [] ≡ generic_mark = e in cc
take_begins (suc n) c cs e = cc

no_param_at : (left : List ℕ) (p : ParamValue) → IsParam (param_word left) p → word left ≡ generic_mark → ⊥
no_param_at [] p is e = let no : [] ≡ generic_mark = e in cc
no_param_at (c ∷ cs) p is e =
    let first : c ≡ 92 = take_begins (word_len (c ∷ cs)) c cs e in
    let at : IsParam (param_word (92 ∷ cs)) p = subst (λ (d : ℕ). IsParam (param_word (d ∷ cs)) p) first is in
    no_param (take (param_len cs) cs) p (subst (λ (w : List ℕ). IsParam w p) (take_one (param_len cs) 92 cs) at)

params_no_mark : (text : List ℕ) (ps : List ParamValue) → AreParamWords text ps → word (after_spaces text) ≢ generic_mark
params_no_mark text [] h e = let no : word [] ≡ generic_mark = ap word (sym h) ∙ e in cc
params_no_mark text (p ∷ ps) h e = no_param_at (after_spaces text) p h.1 e

pub params_back : (own : List ℕ) → IsOctets own → list_fault lists.Params own ≡ None → FieldComesBack (ListOf lists.Params) (params (items lists.Params own))
unfolding list_fault
params_back own h fine origin way printed rest print end =
    let none : rest ≡ [] = end.0 refl in
    let (ps, wire, e, up) = printed_are (length own) (length own) 0 own printed h (omega arith) fine print.1 in
    let text = flat_map spaced ps in
    let words = params_words 0 ps up in
    let is : AreParams (after_spaces text) (params (items lists.Params own)) =
    (ps, ps, from_start text ps words, sorted 0 [] ps tt up, ap keeps_mandatory (sym wire) ∙ print.0, ap (λ (xs : List ℕ). params (items lists.Params xs)) wire) in
    rw (none, e, append-nil) ((is, refl), params_no_mark text ps words, params_end ps)
