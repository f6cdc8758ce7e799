-- The labels of octets and nibbles: how they are read back, and that they are labels and stand for themselves as text.
use Rattle.std.proofs.Common.{◌≡◌, ℕ, ◌+◌, ◌*◌, ◌^◌, ◌<◌, ◌≤◌, ◌/◌, ◌%◌, true, List, [], ◌∷◌, ◌++◌, length, map, Ok, refl, sym, subst, arith, decimal, inl, inr}
use Rattle.std.specs.Char.{digit_char, digit_value}
use Rattle.std.specs.List.{AllByRecursion, list_all}
use Rattle.std.specs.Str.{IsAscii, is_utf8}
use Rattle.std.proofs.lemmas.Bool.{agree_below_at, cases_lt, lt-ltb}
use Rattle.std.proofs.lemmas.Bool.Decides.{nat_tests}
use Rattle.std.proofs.lemmas.Fmt.{parse-decimal, IsAscii-decimal}
use Rattle.std.proofs.lemmas.Str.{IsUtf8-from_ascii, is_utf8-from_IsUtf8}
use Rattle.std.proofs.lemmas.Str.Ascii.{IsAscii-nil, IsAscii-cons}
use Rattle.dnw_base.specs.Labels.{IsLabel}
use Rattle.dnw_base.specs.Names.{encoded_size}
use Rattle.dnw_base.proofs.Wires.{encoded_size_cons}
use Rattle.dnw_name_form.specs.LabelText.{may_begin, may_follow}
use Rattle.dnw_name_text.specs.AsciiText.{IsLabelText}
use Rattle.dnw_name_arpa.specs.Arpa.{GiveValues, octet_of, value_bits, value_label, value_of}
use Rattle.dnw_name_arpa.specs.declared.reading.Family.{Family}
use Rattle.dnw_name_arpa.specs.declared.reading.Family.TheVariants.{Ipv4, Ipv6}
use Rattle.dnw_name_arpa.proofs.Decimals.{one_digit, two_digits, three_digits}
use Rattle.dnw_name_arpa.proofs.Values.{octet_parses}

pub ascii_text : (l : List ℕ) → IsAscii l → is_utf8 l ≡ true
ascii_text l h = is_utf8-from_IsUtf8 l (IsUtf8-from_ascii l h)

-- the digit of a nibble
digit_back : (v : ℕ) → v < 16 → digit_value (digit_char v) ≡ v
digit_back v h = grind (arith, nat_tests)

digit_small : (v : ℕ) → v < 16 → digit_char v < 128
digit_small v h = grind (arith, nat_tests)

digit_begins : (v : ℕ) → v < 16 → may_begin (digit_char v) ≡ true
digit_begins v h = agree_below_at (λ v. may_begin (digit_char v)) (λ v. true) 16 v refl h

decimal_begins : (v : ℕ) → v < 10 → may_begin (48 + v) ≡ true
decimal_begins v h = agree_below_at (λ v. may_begin (48 + v)) (λ v. true) 10 v refl h

decimal_follows : (v : ℕ) → v < 10 → may_follow (48 + v) ≡ true
decimal_follows v h = agree_below_at (λ v. may_follow (48 + v)) (λ v. true) 10 v refl h

value_back : (family : Family) (v : ℕ) → v < 2 ^ value_bits family → value_of family (value_label family v) ≡ Ok v
value_back Ipv4 v h =
    parse-decimal 8 v (decimal v) (octet_of (decimal v)) h (omega arith) refl (octet_parses (decimal v) (ascii_text (decimal v) (IsAscii-decimal v (omega arith))))
value_back Ipv6 v h =
    let text = ascii_text (digit_char v ∷ []) (IsAscii-cons (digit_char v) [] (digit_small v h) IsAscii-nil) in
    rw (text, digit_back v h, lt-ltb v 16 h) refl

pub values_back : (family : Family) (vs : List ℕ) → AllByRecursion (λ v. v < 2 ^ value_bits family) vs → GiveValues family (map (value_label family) vs) vs
values_back family [] h = tt
values_back family (v ∷ vs) h = (value_back family v h.0, values_back family vs h.1)

-- what the label of an octet or a nibble is
record IsShort (l : List ℕ) : Type 0 where
  label : IsLabel l
  text : IsLabelText l
  short : length l ≤ 3

short_label : (a : ℕ) (rest : List ℕ) → may_begin a ≡ true → list_all may_follow rest ≡ true → length rest ≤ 2 → IsShort (a ∷ rest)
short_label a rest h all few = record {
  label = record { not_empty = omega arith; not_long = omega arith };
  text = rw (h, all) refl;
  short = omega arith;
}

octet_label : (v : ℕ) → v < 256 → IsShort (decimal v)
octet_label v h =
    elim (cases_lt v 10) [
      | inl small ↦ subst IsShort (sym (one_digit v small)) (short_label _ [] (decimal_begins (v % 10) (omega arith)) refl (omega arith))
      | inr more ↦
          elim (cases_lt v 100) [
            | inl small ↦ subst IsShort (sym (two_digits v more small)) (short_label _ _ (decimal_begins (v / 10 % 10) (omega arith)) (rw (decimal_follows (v % 10) (omega arith)) refl) (omega arith))
            | inr many ↦
                subst IsShort (sym (three_digits v many (omega arith)))
                (short_label _ _ (decimal_begins (v / 100) (omega arith)) (rw (decimal_follows (v / 10 % 10) (omega arith), decimal_follows (v % 10) (omega arith)) refl) (omega arith))
          ]
    ]

value_short : (family : Family) (v : ℕ) → v < 2 ^ value_bits family → IsShort (value_label family v)
value_short Ipv4 v h = octet_label v h
value_short Ipv6 v h = short_label (digit_char v) [] (digit_begins v h) refl (omega arith)

-- the labels of values before others
pub value_labels : (family : Family) (vs : List ℕ) (tail : List (List ℕ)) → AllByRecursion (λ v. v < 2 ^ value_bits family) vs
    → AllByRecursion IsLabel tail → AllByRecursion IsLabel (map (value_label family) vs ++ tail)
value_labels family [] tail h k = k
value_labels family (v ∷ vs) tail h k = ((value_short family v h.0).label, value_labels family vs tail h.1 k)

pub value_texts : (family : Family) (vs : List ℕ) (tail : List (List ℕ)) → AllByRecursion (λ v. v < 2 ^ value_bits family) vs
    → AllByRecursion IsLabelText tail → AllByRecursion IsLabelText (map (value_label family) vs ++ tail)
value_texts family [] tail h k = k
value_texts family (v ∷ vs) tail h k = ((value_short family v h.0).text, value_texts family vs tail h.1 k)

pub value_sizes : (family : Family) (vs : List ℕ) (tail : List (List ℕ)) → AllByRecursion (λ v. v < 2 ^ value_bits family) vs
    → encoded_size (map (value_label family) vs ++ tail) ≤ 4 * length vs + encoded_size tail
value_sizes family [] tail h = omega arith
value_sizes family (v ∷ vs) tail h =
    let short = (value_short family v h.0).short in
    let rest = value_sizes family vs tail h.1 in
    omega (arith, encoded_size_cons (value_label family v) (map (value_label family) vs ++ tail))
