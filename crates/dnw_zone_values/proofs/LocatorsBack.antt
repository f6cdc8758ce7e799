-- What is printed of a locator is parsed as it, and a text is one locator at most.
use Rattle.std.proofs.Common.{◌≡◌, ℕ, ◌/◌, ◌%◌, ◌<◌, ◌≤◌, true, List, [], ◌∷◌, ◌++◌, length, get_or, refl, sym, ◌∙◌, subst, arith}
use Rattle.std.specs.Prelude.{Option, Some, None, MatchOption}
use Rattle.std.specs.Char.{digit_value}
use Rattle.std.specs.List.{list_all}
use Rattle.std.specs.Str.Parse.{AllDigits, digits_value}
use Rattle.dnw_zone_values.specs.Pairs.{lower_digit}
use Rattle.dnw_zone_values.specs.Prefixes.{colon, before, after}
use Rattle.dnw_zone_values.specs.Locators.{group_text, locator_of, locator_text, AreGroups, IsGroupText, IsLocatorText}
use Rattle.dnw_zone_values.specs.Spelling.{ComesBack}
use Rattle.dnw_zone_values.proofs.PrefixesBack.{is_other, before_at, after_at}

-- four digits, or fewer after zeros, write this number, if all are digits
abbrev pub Digits : Option ℕ → List ℕ → Type 0
Digits r ds = MatchOption r (¬ (AllDigits 16 ds)) (λ n. AllDigits 16 ds × (n ≡ digits_value 16 ds))

abbrev pub IsGroupOf : Option ℕ → List ℕ → Type 0
IsGroupOf r t = MatchOption r ((n : ℕ) → ¬ (IsGroupText t n)) (IsGroupText t)

pub group_of_three : (t : List ℕ) (r : Option ℕ) → 3 ≤ length t → length t < 4 → Digits r (48 ∷ get_or t 0 0 ∷ get_or t 1 0 ∷ get_or t 2 0 ∷ []) → IsGroupOf r t
group_of_three [] r few most h = absurd (omega (arith, few))
group_of_three (a ∷ []) r few most h = absurd (omega (arith, few))
group_of_three (a ∷ b ∷ []) r few most h = absurd (omega (arith, few))
group_of_three (a ∷ b ∷ c ∷ d ∷ t) r few most h = absurd (omega (arith, most))
group_of_three (a ∷ b ∷ c ∷ []) None few most h = λ n is. h (omega arith, is.0.1)
group_of_three (a ∷ b ∷ c ∷ []) (Some n) few most h = ((omega arith, h.0.1), omega arith, sym h.1)

pub group_of_four : (t : List ℕ) (r : Option ℕ) → 4 ≤ length t → length t < 5 → Digits r (get_or t 0 0 ∷ get_or t 1 0 ∷ get_or t 2 0 ∷ get_or t 3 0 ∷ []) → IsGroupOf r t
group_of_four [] r few most h = absurd (omega (arith, few))
group_of_four (a ∷ []) r few most h = absurd (omega (arith, few))
group_of_four (a ∷ b ∷ []) r few most h = absurd (omega (arith, few))
group_of_four (a ∷ b ∷ c ∷ []) r few most h = absurd (omega (arith, few))
group_of_four (a ∷ b ∷ c ∷ d ∷ e ∷ t) r few most h = absurd (omega (arith, most))
group_of_four (a ∷ b ∷ c ∷ d ∷ []) None few most h = λ n is. h is.0.1
group_of_four (a ∷ b ∷ c ∷ d ∷ []) (Some n) few most h = ((omega arith, h.0), omega arith, sym h.1)

-- ---- one locator

one_group : (t : List ℕ) (a b : ℕ) → IsGroupText t a → IsGroupText t b → a ≡ b
one_group t a b x y = sym x.2 ∙ y.2

one_of_groups : (p q r s : List ℕ) (a b : ℕ) → AreGroups p q r s a → AreGroups p q r s b → a ≡ b
one_of_groups p q r s a b x y =
    let first : x.0 ≡ y.0 = one_group p x.0 y.0 x.4 y.4 in
    let second : x.1 ≡ y.1 = one_group q x.1 y.1 x.5 y.5 in
    let third : x.2 ≡ y.2 = one_group r x.2 y.2 x.6 y.6 in
    let fourth : x.3 ≡ y.3 = one_group s x.3 y.3 x.7 y.7 in
    x.8 ∙ rw (first, second, third, fourth) refl ∙ sym y.8

pub one_locator : (text : List ℕ) (a b : ℕ) → IsLocatorText text a → IsLocatorText text b → a ≡ b
one_locator text a b x y = one_of_groups _ _ _ _ a b x y

pub no_locator : (text p q r s second third : List ℕ) → p ≡ before colon text → second ≡ after colon text → q ≡ before colon second → third ≡ after colon second
    → r ≡ before colon third → s ≡ after colon third → ((n : ℕ) → ¬ (AreGroups p q r s n)) → (n : ℕ) → ¬ (IsLocatorText text n)
no_locator text p q r s second third a b c d e f none n is = none n (rw (a, c, e, f, d, b) is)

-- ---- what is printed

digit_is : (n : ℕ) → n < 16 → digit_value (lower_digit n) ≡ n
digit_is n h = grind arith

no_colon : (n : ℕ) → n < 16 → is_other colon (lower_digit n) ≡ true
no_colon n h = grind arith

pub group_open : (n : ℕ) → n < 65536 → list_all (is_other colon) (group_text n) ≡ true
group_open n h =
    rw (no_colon (n / 4096) (omega arith), no_colon (n / 256 % 16) (omega arith), no_colon (n / 16 % 16) (omega arith), no_colon (n % 16) (omega arith)) refl

group_is : (n : ℕ) → n < 65536 → IsGroupText (group_text n) n
group_is n h =
    let a = digit_is (n / 4096) (omega arith) in
    let b = digit_is (n / 256 % 16) (omega arith) in
    let c = digit_is (n / 16 % 16) (omega arith) in
    let d = digit_is (n % 16) (omega arith) in
    ((omega arith, (omega (arith, a), (omega (arith, b), (omega (arith, c), (omega (arith, d), tt))))), omega arith, rw (a, b, c, d) (omega arith))

groups_text : (a b c d : ℕ) → a < 65536 → b < 65536 → c < 65536 → d < 65536
    → IsLocatorText (group_text a ++ colon ∷ group_text b ++ colon ∷ group_text c ++ colon ∷ group_text d) (locator_of a b c d)
groups_text a b c d p q r s =
    let ga = group_text a in
    let gb = group_text b in
    let gc = group_text c in
    let gd = group_text d in
    let last = gc ++ colon ∷ gd in
    let more = gb ++ colon ∷ last in
    let second = after_at colon ga more (group_open a p) in
    let third = after_at colon gb last (group_open b q) in
    let fourth = after_at colon gc gd (group_open c r) in
    rw (before_at colon ga more (group_open a p), second, before_at colon gb last (group_open b q), third, before_at colon gc gd (group_open c r), fourth)
    (a, b, c, d, group_is a p, group_is b q, group_is c r, group_is d s, refl)

pub locator_back : ComesBack (λ (n : ℕ). n < 18446744073709551616) locator_text IsLocatorText
locator_back n fits =
    let whole : locator_of (n / 281474976710656) (n / 4294967296 % 65536) (n / 65536 % 65536) (n % 65536) ≡ n = omega arith in
    let is : IsLocatorText (locator_text n) n =
    subst (IsLocatorText (locator_text n)) whole (groups_text (n / 281474976710656) (n / 4294967296 % 65536) (n / 65536 % 65536) (n % 65536) (omega arith) (omega arith) (omega arith) (omega arith)) in
    (is, λ other also. one_locator (locator_text n) other n also is)
