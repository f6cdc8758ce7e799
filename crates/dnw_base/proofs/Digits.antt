-- Codes in decimal digits, as they are printed.
use Rattle.std.proofs.Common.{rules, ◌≡◌, ℕ, ◌+◌, ◌-◌, ◌*◌, ◌<◌, ◌≤◌, ◌==◌, Bool, true, false, List, [], ◌∷◌, length, drop, Option, Some, None, refl, sym, ap, drop_of_length-le, ◌∙◌, arith, if◌then◌else◌}
use Rattle.std.specs.Fmt.{decimal}
use Rattle.std.specs.Int.{IsInRange}
use Rattle.std.specs.Char.{is_ascii_digit, digit_value}
use Rattle.std.specs.Str.{str_to_ascii_lowercase}
use Rattle.std.specs.Str.Parse.{AllDigits, IsNumeral, digits_value, digits_value_after}
use Rattle.std.proofs.lemmas.Bool.{lt-ltb, le-ltb, ne_eqb}
use Rattle.std.proofs.lemmas.Fmt.{decimal_is_IsNumeral}
use Rattle.std.proofs.Math.Seq.{take-append_seam, drop-append_seam}
use Rattle.std.proofs.lemmas.Slice.Eq.{bytes_eq-Decides}
use Rattle.std.proofs.lemmas.Str.{digit_value_digit}
use Rattle.std.proofs.lemmas.Str.Parse.{digit_from_value}
use Rattle.dnw_base.specs.CodeTexts.{decimal_after, decimal_code, numbered, code_after}

-- digits only make a number larger
pub past_codes : (n : ℕ) (cs : List ℕ) → 65536 ≤ n → decimal_after n cs ≡ None
past_codes n [] large = rw (le-ltb n 65536 large) refl
past_codes n (c ∷ cs) large = either (is_ascii_digit c) _ (past_codes (10 * n + (c - 48)) cs (omega arith))
  where
    either : (t : Bool) (longer : Option ℕ) → longer ≡ None → (if t then longer else None) ≡ None
    either true longer h = h
    either false longer h = refl

-- digits that are read to their end
pub whole_code : (code i : ℕ) (ds : List ℕ) → code < 65536 → length ds ≤ i → (length ds == 0) ≡ false → decimal_after code (drop i ds) ≡ decimal_after 0 ds
    → Some code ≡ decimal_code ds
whole_code code i ds small end some h = rw some (sym (rw (lt-ltb code 65536 small) refl) ∙ (sym (ap (decimal_after code) (drop_of_length-le ds {i = i} end)) ∙ h))

digit : (c : ℕ) → IsInRange 48 57 c → is_ascii_digit c ≡ true
digit c (low, high) = search (rules, low, high)

pub digits_follow : (n : ℕ) (ds : List ℕ) → AllDigits 10 ds → digits_value_after 10 n ds < 65536 → decimal_after n ds ≡ Some (digits_value_after 10 n ds)
digits_follow n [] all small = rw (lt-ltb n 65536 small) refl
digits_follow n (c ∷ cs) all small =
    let range = digit_from_value c all.0 in
    let is : is_ascii_digit c ≡ true = digit c range in
    let longer : 10 * n + (c - 48) ≡ n * 10 + digit_value c = omega (arith, digit_value_digit c range) in
    rw (is, longer) (digits_follow (n * 10 + digit_value c) cs all.1 small)

-- what is printed after a word is read back
pub numbered_back : (word : List ℕ) (code : ℕ) → code < 65536 → code_after word (numbered word code) ≡ Some code
numbered_back word code small =
    rw (take-append_seam word (decimal code), drop-append_seam word (decimal code), (bytes_eq-Decides (str_to_ascii_lowercase word) (str_to_ascii_lowercase word)).1 refl)
    (by (decimal code) (decimal_is_IsNumeral code (omega (arith, small))))
  where
    by : (ds : List ℕ) → IsNumeral 10 ds × (digits_value 10 ds ≡ code) → decimal_code ds ≡ Some code
    by [] h = absurd (omega (arith, h.0.0))
    by (c ∷ cs) h = rw (ne_eqb (length (c ∷ cs)) 0 (λ e. omega (arith, e))) (digits_follow 0 (c ∷ cs) h.0.1 (omega (arith, h.1, small)) ∙ ap Some h.1)
