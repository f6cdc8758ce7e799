-- What labels give as octets and nibbles.
use Rattle.std.proofs.Common.{◌≡◌, ℕ, suc, ◌+◌, ◌-◌, ◌<◌, ◌^◌, Bool, true, false, nat_lt, List, [], ◌∷◌, ◌++◌, length, take, slice_index, ◌&&◌, if◌then◌else◌, Result, Ok, Err, refl, sym, ap, ◌∙◌, append_assoc, arith}
use Rattle.std.specs.Char.{digit_value, is_digit}
use Rattle.std.specs.List.{AllByRecursion, list_all}
use Rattle.std.specs.Result.{OkIff}
use Rattle.std.specs.Str.{IsUtf8, is_utf8}
use Rattle.std.specs.Str.Parse.{AllDigits, IsNumeral, ParsesUnsigned, digits_value, without_leading_plus}
use Rattle.std.proofs.lemmas.Str.{IsUtf8-from_is_utf8}
use Rattle.std.proofs.lemmas.Bool.{and_parts, ltb-true, ne_eqb, false_from_ne_true, true≢false}
use Rattle.std.proofs.lemmas.Bool.Decides.{nat_tests}
use Rattle.std.proofs.lemmas.List.{length-append}
use Rattle.dnw_name_arpa.specs.Arpa.{ArpaFault, NotANumber, NotOneDigit, NotUtf8, IsArpaPrefix, TooManyLabels, is_octet_text, octet_of, nibble_of, value_bits, value_of, values_of, most_values, ◌>>=◌}
use Rattle.dnw_name_arpa.specs.Inside.Reading.{ended_prefix, prefix_after}
use Rattle.dnw_name_arpa.specs.declared.reading.Family.{Family}

pub not_utf8 : (bs : List ℕ) → ¬ (IsUtf8 bs) → is_utf8 bs ≡ false
not_utf8 bs h = false_from_ne_true (is_utf8 bs) (λ e. h (IsUtf8-from_is_utf8 bs e))

-- a test of digits
digits_tested : (ds : List ℕ) → AllDigits 10 ds → list_all (λ c. is_digit c 10) ds ≡ true
digits_tested [] h = refl
digits_tested (d ∷ ds) h = grind (arith, nat_tests, digits_tested ds)

tested_digits : (ds : List ℕ) → list_all (λ c. is_digit c 10) ds ≡ true → AllDigits 10 ds
tested_digits [] h = tt
tested_digits (d ∷ ds) h = grind (arith, nat_tests, tested_digits ds)

pub octet_text : (ds : List ℕ) → IsNumeral 10 ds → digits_value 10 ds < 256 → is_octet_text ds ≡ true
octet_text ds numeral small = let all = digits_tested ds numeral.1 in grind (arith, nat_tests)

octet_text_is : (ds : List ℕ) → is_octet_text ds ≡ true → IsNumeral 10 ds × (digits_value 10 ds < 256)
octet_text_is ds e =
    let parts = and_parts (nat_lt 0 (length ds) && list_all (λ c. is_digit c 10) ds) (nat_lt (digits_value 10 ds) 256) e in
    let digits = and_parts (nat_lt 0 (length ds)) (list_all (λ c. is_digit c 10) ds) parts.0 in
    ((ltb-true _ _ digits.0, tested_digits ds digits.1), ltb-true _ _ parts.1)

pub no_octet_text : (ds : List ℕ) → ¬ (IsNumeral 10 ds × (digits_value 10 ds < 256)) → is_octet_text ds ≡ false
no_octet_text ds h = false_from_ne_true (is_octet_text ds) (λ e. h (octet_text_is ds e))

-- a value more
value_first : (family : Family) (r : Result (List ℕ) ArpaFault) (vs : List ℕ) (v : ℕ) (many : Bool)
    → ((r >>= (λ ws. Ok (v ∷ ws))) >>= (λ ws. ended_prefix family many (vs ++ ws))) ≡ (r >>= (λ ws. ended_prefix family many ((vs ++ v ∷ []) ++ ws)))
value_first family (Ok ws) vs v many = ap (ended_prefix family many) (sym (append_assoc vs (v ∷ []) ws))
value_first family (Err fault) vs v many = refl

pub prefix_after_value : (family : Family) (vs : List ℕ) (l : List ℕ) (ls : List (List ℕ)) (v : ℕ)
    → length vs < most_values family → value_of family l ≡ Ok v → prefix_after family (vs ++ v ∷ []) ls ≡ prefix_after family vs (l ∷ ls)
prefix_after_value family vs l ls v room e =
    let long : length (vs ++ v ∷ []) ≡ length vs + 1 = length-append vs (v ∷ []) in
    let left : most_values family - length vs ≡ suc (most_values family - length (vs ++ v ∷ [])) = omega arith in
    let all : length (vs ++ v ∷ []) + length ls ≡ length vs + length (l ∷ ls) = omega arith in
    rw (left, e, all) (sym (value_first family (values_of family (take (most_values family - length (vs ++ v ∷ [])) ls)) vs v _))

pub prefix_after_fault : (family : Family) (vs : List ℕ) (l : List ℕ) (ls : List (List ℕ)) (fault : ArpaFault)
    → length vs < most_values family → value_of family l ≡ Err fault → prefix_after family vs (l ∷ ls) ≡ Err fault
prefix_after_fault family vs l ls fault room e =
    let left : most_values family - length vs ≡ suc (most_values family - length vs - 1) = omega arith in
    rw (left, e) refl

pub prefix_after_more : (family : Family) (vs : List ℕ) (l : List ℕ) (ls : List (List ℕ))
    → length vs ≡ most_values family → prefix_after family vs (l ∷ ls) ≡ Err (TooManyLabels family)
prefix_after_more family vs l ls e =
    let none : most_values family - length vs ≡ 0 = omega arith in
    let many : nat_lt (most_values family) (length vs + length (l ∷ ls)) ≡ true = grind (arith, nat_tests) in
    rw (none, many) refl

-- each fault of an octet
pub octet_of_octet : (l : List ℕ) → is_utf8 l ≡ true → IsNumeral 10 (without_leading_plus l) → digits_value 10 (without_leading_plus l) < 256
    → octet_of l ≡ Ok (digits_value 10 (without_leading_plus l))
octet_of_octet l utf8 numeral small = rw (utf8, octet_text (without_leading_plus l) numeral small) refl

pub octet_of_other : (l : List ℕ) → is_utf8 l ≡ true → ¬ (IsNumeral 10 (without_leading_plus l) × (digits_value 10 (without_leading_plus l) < 256))
    → octet_of l ≡ Err NotANumber
octet_of_other l utf8 none = rw (utf8, no_octet_text (without_leading_plus l) none) refl

parsed : (ds : List ℕ) (b : Bool) → is_octet_text ds ≡ b
    → OkIff (if b then Ok (digits_value 10 ds) else Err NotANumber) (IsNumeral 10 ds × (digits_value 10 ds < 256)) (digits_value 10 ds)
parsed ds true e = (octet_text_is ds e, refl)
parsed ds false e = λ p. true≢false (sym (octet_text ds p.0 p.1) ∙ e)

-- an octet is what std reads as a number of eight bits
pub octet_parses : (l : List ℕ) → is_utf8 l ≡ true → ParsesUnsigned 8 10 l (octet_of l)
octet_parses l utf8 = rw utf8 (parsed (without_leading_plus l) (is_octet_text (without_leading_plus l)) refl)

-- each fault of a nibble
pub nibble_of_long : (l : List ℕ) → ¬ (length l ≡ 1) → nibble_of l ≡ Err NotOneDigit
nibble_of_long l h = rw (ne_eqb (length l) 1 h) refl

pub nibble_of_bytes : (l : List ℕ) → length l ≡ 1 → is_utf8 l ≡ false → nibble_of l ≡ Err NotUtf8
nibble_of_bytes l one bytes = rw (one, bytes) refl

pub nibble_of_other : (l : List ℕ) → length l ≡ 1 → is_utf8 l ≡ true → ¬ (digit_value (slice_index l 0) < 16) → nibble_of l ≡ Err NotANumber
nibble_of_other l one utf8 h =
    let none : is_digit (slice_index l 0) 16 ≡ false = false_from_ne_true (is_digit (slice_index l 0) 16) (λ e. h (ltb-true _ _ e)) in
    rw (one, utf8, none) refl

-- a value more of a prefix
pub all_push : (P : ℕ → Type 0) (vs : List ℕ) (v : ℕ) → AllByRecursion P vs → P v → AllByRecursion P (vs ++ v ∷ [])
all_push P [] v each h = (h, tt)
all_push P (w ∷ vs) v each h = (each.0, all_push P vs v each.1 h)

pub IsArpaPrefix_push : (family : Family) (vs : List ℕ) (v : ℕ) → IsArpaPrefix (record { family = family; values = vs })
    → length vs < most_values family → v < 2 ^ value_bits family → IsArpaPrefix (record { family = family; values = vs ++ v ∷ [] })
IsArpaPrefix_push family vs v h room small = record {
  few = omega (arith, length-append vs (v ∷ []));
  fit = all_push (λ v. v < 2 ^ value_bits family) vs v h.fit small;
}
