-- A number that is printed in decimal is that number in each form.
use Rattle.std.proofs.Common.{◌≡◌, ◌≤◌, ◌<◌, ◌^◌, ◌+◌, ◌-◌, ◌*◌, ◌/◌, ◌%◌, ℕ, true, List, [], ◌∷◌, ◌++◌, length, decimal, refl, sym, ap, ◌∙◌, arith, append_assoc, append-nil}
use Rattle.std.specs.Prelude.{Option, Some, None, option_map}
use Rattle.std.specs.Char.{is_ascii_digit}
use Rattle.std.specs.List.{list_all}
use Rattle.std.proofs.lemmas.Bool.{and_parts}
use Rattle.std.proofs.lemmas.Fmt.{decimal_by_steps, decimal_nonempty}
use Rattle.dnw_zone_lexer.specs.Times.{groups_after, time_seconds, total_seconds}
use Rattle.dnw_zone_values.specs.Mnemonics.{IsNumberOrName, algorithm_named, begins_with_digit, certificate_type_named, protocol_named, scheme_named}
use Rattle.dnw_zone_values.proofs.ComeBack.{numbers}
use Rattle.dnw_zone_data.specs.declared.number_form.NumberForm.{NumberForm}
use Rattle.dnw_zone_data.specs.declared.number_form.NumberForm.TheVariants.{Decimal, Period, Algorithm, CertificateType, Scheme, Protocol, Optional}
use Rattle.dnw_zone_data.specs.NumberForms.{is_whole, IsNumberIn, IsPeriod}

digit : (d : ℕ) → d < 10 → is_ascii_digit (48 + d) ≡ true
digit d few = grind arith

-- ---- digits

digits_append : (a b : List ℕ) → list_all is_ascii_digit a ≡ true → list_all is_ascii_digit b ≡ true → list_all is_ascii_digit (a ++ b) ≡ true
digits_append [] b h k = k
digits_append (c ∷ a) b h k =
    let parts = and_parts (is_ascii_digit c) (list_all is_ascii_digit a) h in rw (parts.0) (digits_append a b parts.1 k)

decimal_digits : (n : ℕ) → n < 2 ^ 64 → list_all is_ascii_digit (decimal n) ≡ true
decimal_digits n h =
    decimal_by_steps (λ _ text. list_all is_ascii_digit text ≡ true) (λ n below. rw (digit n below) refl)
    (λ n ds ten so_far. digits_append ds ((48 + n % 10) ∷ []) so_far (rw (digit (n % 10) (omega arith)) refl)) n h

first_digit : (w : List ℕ) → 0 < length w → list_all is_ascii_digit w ≡ true → begins_with_digit w ≡ true
first_digit [] some h = absurd (omega (arith, some))
first_digit (c ∷ w) some h = (and_parts (is_ascii_digit c) (list_all is_ascii_digit w) h).0

-- ---- periods

-- the digits of a number are one group
digits_group : (n : ℕ) → n < 2 ^ 64 → (rest : List ℕ) → groups_after None (decimal n ++ rest) ≡ groups_after (Some n) rest
digits_group n h =
    decimal_by_steps (λ m ds. (rest : List ℕ) → groups_after None (ds ++ rest) ≡ groups_after (Some m) rest)
    (λ m below rest. let same : 48 + m - 48 ≡ m = omega arith in rw (digit m below, same) refl)
    (λ m ds ten so_far rest.
    let same : 10 * (m / 10) + (48 + m % 10 - 48) ≡ m = omega arith in
    ap (groups_after None) (append_assoc ds ((48 + m % 10) ∷ []) rest) ∙ so_far ((48 + m % 10) ∷ rest) ∙ rw (digit (m % 10) (omega arith), same) refl) n h

time_of : (w : List ℕ) (n : ℕ) → 0 < length w → groups_after None w ≡ Some ((n, 1) ∷ []) → time_seconds w ≡ Some n
time_of [] n some e = absurd (omega (arith, some))
time_of (c ∷ w) n some e =
    let one : total_seconds ((n, 1) ∷ []) ≡ n = omega arith in ap (option_map total_seconds) e ∙ ap Some one

pub period : (n : ℕ) → n ≤ 4294967295 → IsPeriod (decimal n) n
period n few =
    let group = ap (groups_after None) (sym (append-nil (decimal n))) ∙ digits_group n (omega (arith, few)) [] in
    let whole : is_whole (decimal n) ≡ true = rw (decimal_digits n (omega (arith, few))) refl in
    (time_of (decimal n) n (decimal_nonempty n (omega (arith, few))) group, few, whole)

-- ---- each form

pub named_or : (named : List ℕ → Option ℕ) (max n : ℕ) → max ≤ 4294967295 → n ≤ max → IsNumberOrName named max (decimal n) n
named_or named max n fits few =
    let begins = first_digit (decimal n) (decimal_nonempty n (omega (arith, fits, few))) (decimal_digits n (omega (arith, fits, few))) in
    rw begins (numbers max (omega (arith, fits)) n few).0

pub in_any_form : (way : NumberForm) (max n : ℕ) → max ≤ 4294967295 → n ≤ max → IsNumberIn way max (decimal n) n
in_any_form Decimal max n fits few = (numbers max (omega (arith, fits)) n few).0
in_any_form Period max n fits few = (period n (omega (arith, fits, few)), few)
in_any_form Algorithm max n fits few = named_or algorithm_named max n fits few
in_any_form CertificateType max n fits few = named_or certificate_type_named max n fits few
in_any_form Scheme max n fits few = named_or scheme_named max n fits few
in_any_form Protocol max n fits few = named_or protocol_named max n fits few
in_any_form Optional max n fits few = (numbers max (omega (arith, fits)) n few).0
