-- Base 64, four digits at a time.
use Rattle.std.proofs.Common.{◌≡◌, ℕ, zero, suc, ◌+◌, ◌-◌, ◌*◌, ◌/◌, ◌%◌, ◌<◌, ◌≤◌, List, [], ◌∷◌, ◌++◌, length, take, slice_index, slice_set, inl, inr, refl, sym, ap, ◌∙◌, arith, append_assoc, append-nil, le_trans, get_or, drop, subst}
use Rattle.std.specs.Prelude.{Option, Some, None}
use Rattle.std.proofs.lemmas.Bool.{lt-ltb}
use Rattle.std.proofs.lemmas.List.{length-set, take_more_set}
use Rattle.hex.proofs.Pairs.{take-two_writes}
use Rattle.base64.specs.Engines.{standard}
use Rattle.base64.specs.GeneralPurpose.{encode_of}
use Rattle.base64.specs.Rfc4648.{encode_group, encode_symbols}
use Rattle.base64.proofs.EngineFacts.{encode_of-append}
use Rattle.base64.proofs.Tables.{are_tables_inverse, encode-decode_table}
use Rattle.dnw_zone_values.specs.Octets.{IsOctets, IsBase64Text}
use Rattle.dnw_zone_values.specs.Spelling.{FailsToAppend}
use Rattle.dnw_zone_values.specs.declared.error.FieldTextError.{FieldTextError}
use Rattle.dnw_zone_values.specs.declared.error.FieldTextError.TheVariants.{Base64}
use Rattle.dnw_zone_values.specs.Inside.Digits.{BeginsBase64, base64_digit_value, number_of_four}
use Rattle.dnw_zone_values.proofs.FourDigits.{four_parts}

-- a digit is the symbol of its number
symbol : (c n : ℕ) → c < 256 → base64_digit_value c ≡ Some n → (n < 64) × (slice_index standard.encode_table n ≡ c)
symbol c n lt is = elim (encode-decode_table standard.encode_table standard.decode_table (are_tables_inverse standard.encode_table standard.decode_table 61 standard.tables) c lt) [
  | inl bad ↦ let none : base64_digit_value c ≡ None = rw bad refl in cc (sym none ∙ is)
  | inr good ↦
      let same : Some (slice_index standard.decode_table c) ≡ Some n = sym (rw (lt-ltb (slice_index standard.decode_table c) 64 good.0) refl) ∙ is in
      let e : slice_index standard.decode_table c ≡ n = cc same in
      rw e at good
]

-- the numbers of four digits, and what they make
pub record Four (x y z t : Option ℕ) (n : ℕ) : Type 0 where
  pub a : ℕ
  pub b : ℕ
  pub c : ℕ
  pub d : ℕ
  pub first : x ≡ Some a
  pub second : y ≡ Some b
  pub third : z ≡ Some c
  pub fourth : t ≡ Some d
  pub sum : n ≡ a * 262144 + b * 4096 + c * 64 + d

four : (x y z t : Option ℕ) (n : ℕ) → number_of_four 262144 4096 64 x y z t ≡ Some n → Four x y z t n
four None y z t n is = cc
four (Some a) None z t n is = cc
four (Some a) (Some b) None t n is = cc
four (Some a) (Some b) (Some c) None n is = cc
four (Some a) (Some b) (Some c) (Some d) n is =
    let e : a * 262144 + b * 4096 + c * 64 + d ≡ n = cc is in
    record { a = a; b = b; c = c; d = d; first = refl; second = refl; third = refl; fourth = refl; sum = sym e }

bytes_cons : (x : ℕ) (xs : List ℕ) → x < 256 → IsOctets xs → IsOctets (x ∷ xs)
bytes_cons x xs h hs zero = h
bytes_cons x xs h hs (suc i) = hs i

-- three octets more are four symbols more
three_more : (x y z : ℕ) (xs : List ℕ) → encode_of standard (x ∷ y ∷ z ∷ xs) ≡ encode_group standard.encode_table x y z ++ encode_of standard xs
unfolding encode_symbols
three_more x y z xs = encode_of-append standard (x ∷ y ∷ z ∷ []) xs refl

encoded_one : (x : ℕ) → encode_of standard (x ∷ []) ≡ slice_index standard.encode_table (x / 4) ∷ slice_index standard.encode_table (x % 4 * 16) ∷ 61 ∷ 61 ∷ []
unfolding encode_symbols
encoded_one x = refl

encoded_two : (x y : ℕ) → encode_of standard (x ∷ y ∷ [])
    ≡ slice_index standard.encode_table (x / 4) ∷ slice_index standard.encode_table (x % 4 * 16 + y / 16) ∷ slice_index standard.encode_table (y % 16 * 4) ∷ 61 ∷ []
unfolding encode_symbols
encoded_two x y = refl

no_octets : IsOctets []
no_octets i = omega arith

module _ (a b c d n : ℕ) (ha : a < 256) (hb : b < 256) (hc : c < 256) (hd : d < 256)
    (is : number_of_four 262144 4096 64 (base64_digit_value a) (base64_digit_value b) (base64_digit_value c) (base64_digit_value d) ≡ Some n) where
  abbrev digits : Four (base64_digit_value a) (base64_digit_value b) (base64_digit_value c) (base64_digit_value d) n
  digits = four (base64_digit_value a) (base64_digit_value b) (base64_digit_value c) (base64_digit_value d) n is

  below : n < 16777216
  below = omega (arith, digits.sum, (symbol a digits.a ha digits.first).0, (symbol b digits.b hb digits.second).0, (symbol c digits.c hc digits.third).0, (symbol d digits.d hd digits.fourth).0)

  -- three octets are written by the four digits
  group : encode_group standard.encode_table (n / 65536) (n / 256 % 256) (n % 256) ≡ a ∷ b ∷ c ∷ d ∷ []
  group =
      let fa = symbol a digits.a ha digits.first in
      let fb = symbol b digits.b hb digits.second in
      let fc = symbol c digits.c hc digits.third in
      let fd = symbol d digits.d hd digits.fourth in
      let ea : n / 65536 / 4 ≡ digits.a = omega (arith, digits.sum, fa.0, fb.0, fc.0, fd.0) in
      let eb : n / 65536 % 4 * 16 + n / 256 % 256 / 16 ≡ digits.b = omega (arith, digits.sum, fa.0, fb.0, fc.0, fd.0) in
      let ec : n / 256 % 256 % 16 * 4 + n % 256 / 64 ≡ digits.c = omega (arith, digits.sum, fa.0, fb.0, fc.0, fd.0) in
      let ed : n % 256 % 64 ≡ digits.d = omega (arith, digits.sum, fa.0, fb.0, fc.0, fd.0) in
      rw (ea, eb, ec, ed, fa.1, fb.1, fc.1, fd.1) refl

-- with padding there are one octet or two, since the last ones are zeros
pub one_spelled : (a b n : ℕ) → a < 256 → b < 256 → number_of_four 262144 4096 64 (base64_digit_value a) (base64_digit_value b) (base64_digit_value 65) (base64_digit_value 65) ≡ Some n
    → n % 65536 ≡ 0 → IsBase64Text (a ∷ b ∷ 61 ∷ 61 ∷ []) (n / 65536 ∷ [])
one_spelled a b n ha hb is whole =
    let four = group a b 65 65 n ha hb (omega arith) (omega arith) is in
    let first : slice_index standard.encode_table (n / 65536 / 4) ≡ a = ap (λ (l : List ℕ). get_or l 0 0) four in
    let zeros : n / 65536 % 4 * 16 ≡ n / 65536 % 4 * 16 + n / 256 % 256 / 16 = omega (arith, whole) in
    let second : slice_index standard.encode_table (n / 65536 % 4 * 16) ≡ b = ap (slice_index standard.encode_table) zeros ∙ ap (λ (l : List ℕ). get_or l 1 0) four in
    (bytes_cons (n / 65536) [] (omega (arith, below a b 65 65 n ha hb (omega arith) (omega arith) is)) no_octets, rw (encoded_one (n / 65536), first, second) refl)

pub two_spelled : (a b c n : ℕ) → a < 256 → b < 256 → c < 256 → number_of_four 262144 4096 64 (base64_digit_value a) (base64_digit_value b) (base64_digit_value c) (base64_digit_value 65) ≡ Some n
    → n % 256 ≡ 0 → IsBase64Text (a ∷ b ∷ c ∷ 61 ∷ []) (n / 65536 ∷ n / 256 % 256 ∷ [])
two_spelled a b c n ha hb hc is whole =
    let four = group a b c 65 n ha hb hc (omega arith) is in
    let first : slice_index standard.encode_table (n / 65536 / 4) ≡ a = ap (λ (l : List ℕ). get_or l 0 0) four in
    let second : slice_index standard.encode_table (n / 65536 % 4 * 16 + n / 256 % 256 / 16) ≡ b = ap (λ (l : List ℕ). get_or l 1 0) four in
    let zeros : n / 256 % 256 % 16 * 4 ≡ n / 256 % 256 % 16 * 4 + n % 256 / 64 = omega (arith, whole) in
    let third : slice_index standard.encode_table (n / 256 % 256 % 16 * 4) ≡ c = ap (slice_index standard.encode_table) zeros ∙ ap (λ (l : List ℕ). get_or l 2 0) four in (
      bytes_cons (n / 65536) (n / 256 % 256 ∷ []) (omega (arith, below a b c 65 n ha hb hc (omega arith) is)) (bytes_cons (n / 256 % 256) [] (omega arith) no_octets),
      rw (encoded_two (n / 65536) (n / 256 % 256), first, second, third) refl,
    )

module _ (a b c d n : ℕ) (rest : List ℕ) (ha : a < 256) (hb : b < 256) (hc : c < 256) (hd : d < 256)
    (is : number_of_four 262144 4096 64 (base64_digit_value a) (base64_digit_value b) (base64_digit_value c) (base64_digit_value d) ≡ Some n) where
  abbrev own : List ℕ
  own = n / 65536 ∷ n / 256 % 256 ∷ n % 256 ∷ []

  spells : (octets : List ℕ) → IsBase64Text rest octets → IsBase64Text (a ∷ b ∷ c ∷ d ∷ rest) (own ++ octets)
  spells octets is_rest = (
    bytes_cons (n / 65536) (n / 256 % 256 ∷ n % 256 ∷ octets) (omega (arith, below a b c d n ha hb hc hd is)) (bytes_cons (n / 256 % 256) (n % 256 ∷ octets) (omega arith) (bytes_cons (n % 256) octets (omega arith) is_rest.0)),
    ap (λ (more : List ℕ). a ∷ b ∷ c ∷ d ∷ more) is_rest.1 ∙ ap (λ (front : List ℕ). front ++ encode_of standard octets) (sym (group a b c d n ha hb hc hd is))
        ∙ sym (three_more (n / 65536) (n / 256 % 256) (n % 256) octets),
  )

  -- with another digit there is no padding
  only : (octets : List ℕ) → IsBase64Text (a ∷ b ∷ c ∷ d ∷ rest) octets → (others : List ℕ) × IsBase64Text rest others
  unfolding encode_symbols
  only [] spelled = cc spelled.1
  only (p ∷ []) spelled = let e : c ≡ 61 = cc spelled.1 in let no : base64_digit_value 61 ≡ Some (digits a b c d n ha hb hc hd is).c = ap base64_digit_value (sym e) ∙ (digits a b c d n ha hb hc hd is).third in cc no
  only (p ∷ q ∷ []) spelled = let e : d ≡ 61 = cc spelled.1 in let no : base64_digit_value 61 ≡ Some (digits a b c d n ha hb hc hd is).d = ap base64_digit_value (sym e) ∙ (digits a b c d n ha hb hc hd is).fourth in cc no
  only (p ∷ q ∷ r ∷ octets) spelled = let e : rest ≡ encode_of standard octets = cc (spelled.1 ∙ three_more p q r octets) in (octets, ((λ i. spelled.0 (suc (suc (suc i)))), e))

  pub group_begins : BeginsBase64 (a ∷ b ∷ c ∷ d ∷ rest) own rest
  group_begins = record { spells = spells; only = only; within = omega arith }

pub begins_all : (text : List ℕ) → BeginsBase64 text [] text
begins_all text = record { spells = λ octets own. own; only = λ octets own. (octets, own); within = omega arith }

pub begins_more : (text own left more rest : List ℕ) → BeginsBase64 text own left → BeginsBase64 left more rest → BeginsBase64 text (own ++ more) rest
begins_more text own left more rest h g = record {
  spells = λ octets is. rw (append_assoc own more octets) (h.spells (more ++ octets) (g.spells octets is));
  only = λ octets is. let others = h.only octets is in g.only others.0 others.1;
  within = le_trans g.within h.within;
}

pub three_writes : (xs : List ℕ) (o x y z : ℕ) → o + 2 < length xs → take (o + 3) (slice_set (slice_set (slice_set xs o x) (o + 1) y) (o + 2) z) ≡ take o xs ++ x ∷ y ∷ z ∷ []
three_writes xs o x y z fits =
    let two : List ℕ = slice_set (slice_set xs o x) (o + 1) y in
    let size : length two ≡ length xs = length-set (slice_set xs o x) (o + 1) y ∙ length-set xs o x in
    let next : o + 3 ≡ o + 2 + 1 = omega arith in
    rw (next, take_more_set two (o + 2) z (omega (arith, size)), take-two_writes xs o x y (omega arith)) (append_assoc (take o xs) (x ∷ y ∷ []) (z ∷ []))

-- one group more
pub groups_more : (text room left : List ℕ) (len n k : ℕ) → 4 ≤ length left → k ≡ length left - 4
    → get_or left 0 0 < 256 → get_or left 1 0 < 256 → get_or left 2 0 < 256 → get_or left 3 0 < 256
    → number_of_four 262144 4096 64 (base64_digit_value (get_or left 0 0)) (base64_digit_value (get_or left 1 0)) (base64_digit_value (get_or left 2 0)) (base64_digit_value (get_or left 3 0)) ≡ Some n
    → len + 2 < length room → BeginsBase64 text (take len room) left
    → BeginsBase64 text (take (len + 3) (slice_set (slice_set (slice_set room len (n / 65536)) (len + 1) (n / 256 % 256)) (len + 2) (n % 256))) (take k (drop 4 left))
groups_more text room left len n k some size ha hb hc hd is fits h =
    let own : List ℕ = n / 65536 ∷ n / 256 % 256 ∷ n % 256 ∷ [] in
    let rest : List ℕ = take k (drop 4 left) in
    let group : BeginsBase64 left own rest =
    subst (λ (t : List ℕ). BeginsBase64 t own rest) (sym (four_parts left k some size)) (group_begins (get_or left 0 0) (get_or left 1 0) (get_or left 2 0) (get_or left 3 0) n rest ha hb hc hd is) in
    rw (three_writes room len (n / 65536) (n / 256 % 256) (n % 256) fits) (begins_more text (take len room) left own rest h group)

none_spelled : IsBase64Text [] []
unfolding encode_symbols
none_spelled = ((λ i. omega arith), refl)

-- with what the rest of the text spells, or with nothing, the groups are what the text spells
pub with_rest : (text own left old new octets : List ℕ) → BeginsBase64 text own left → IsBase64Text left octets → new ≡ (old ++ own) ++ octets
    → (all : List ℕ) × IsBase64Text text all × (new ≡ old ++ all)
with_rest text own left old new octets h is items = (own ++ octets, h.spells octets is, items ∙ append_assoc old own octets)

pub with_none : (text own left old new : List ℕ) → BeginsBase64 text own left → left ≡ [] → new ≡ old ++ own
    → (all : List ℕ) × IsBase64Text text all × (new ≡ old ++ all)
with_none text own left old new h none items = with_rest text own left old new [] h (rw none none_spelled) (items ∙ sym (append-nil (old ++ own)))

-- the text spells nothing if the rest of it does not
pub with_fault : (text front left : List ℕ) (e : FieldTextError) → BeginsBase64 text front left → FailsToAppend Base64 IsBase64Text left e → FailsToAppend Base64 IsBase64Text text e
with_fault text front left e h fails = elim fails [
  | inl wrong ↦ inl (wrong.0, λ octets is. let rest = h.only octets is in wrong.1 rest.0 rest.1)
  | inr ran_out ↦ inr (ran_out.0, le_trans ran_out.1 h.within)
]
