-- Options of EDNS, one after another.
use Rattle.std.proofs.Common.{◌≡◌, ◌≢◌, ℕ, zero, suc, ◌<◌, ◌≤◌, ◌==◌, true, Option, Some, None, List, [], ◌∷◌, length, eqb-true, refl, sym, ap, ◌∙◌, subst, arith}
use Rattle.std.proofs.lemmas.Grind.{common_steps}
use Rattle.dnw_message_read.specs.Edns.{HasOptions, OptionValue, OptionsAre, first_option, none, one_more}
use Rattle.dnw_message_read.specs.Inside.Options.{options_in, options_of}

-- an option takes octets
pub first_shorter : (d rest : List ℕ) (x : OptionValue) → first_option d ≡ Some (x, rest) → length rest < length d
unfolding first_option
first_shorter d rest x h = grind (arith, common_steps)

no_octets : first_option [] ≡ None
unfolding first_option
no_octets = refl

options_are : (n : ℕ) (d : List ℕ) (xs : List OptionValue) → OptionsAre d xs → length d ≤ n → options_in n d ≡ xs
options_are zero d xs none few = refl
options_are (suc n) d xs none few = rw (no_octets, options_in) refl
options_are zero d xs (one_more {rest = rest} {x = x} h more) few = absurd (omega (arith, first_shorter d rest x h))
options_are (suc n) d xs (one_more {rest = rest} {x = x} {xs = ys} h more) few =
    let shorter = first_shorter d rest x h in rw (h, options_in) (ap (λ (zs : List OptionValue). x ∷ zs) (options_are n rest ys more (omega arith)))

pub options_of_are : (d : List ℕ) (xs : List OptionValue) → OptionsAre d xs → options_of d ≡ xs
options_of_are d xs h = options_are (length d) d xs h (omega arith)

-- no octets begin with no option
no_option : (d rest : List ℕ) (x : OptionValue) → d ≡ [] → first_option d ≡ Some (x, rest) → ⊥
no_option d rest x is h = let shorter = first_shorter d rest x h in omega (arith, shorter, ap length is)

pub options_before : (d rest : List ℕ) (x : OptionValue) → first_option d ≡ Some (x, rest) → HasOptions rest → HasOptions d
options_before d rest x h (xs, are) = (x ∷ xs, one_more h are)

abbrev rest_of : Option (OptionValue × List ℕ) → List ℕ
rest_of (Some (x, rest)) = rest
rest_of None = []

pub options_after : (d rest : List ℕ) (x : OptionValue) → first_option d ≡ Some (x, rest) → HasOptions d → HasOptions rest
options_after d rest x h (xs, none) = absurd (no_option d rest x refl h)
options_after d rest x h (xs, one_more {rest = r} {x = y} {xs = ys} first more) =
    let same : rest ≡ r = ap rest_of (sym h ∙ first) in (ys, subst (λ o. OptionsAre o ys) (sym same) more)

pub no_options : (d : List ℕ) → first_option d ≡ None → d ≢ [] → HasOptions d → ⊥
no_options d h some (xs, none) = some refl
no_options d h some (xs, one_more first more) = cc

pub options_first : (d rest : List ℕ) (x : OptionValue) → first_option d ≡ Some (x, rest) → HasOptions d → options_of d ≡ x ∷ options_of rest
options_first d rest x h has =
    let (xs, are) = options_after d rest x h has in
    options_of_are d (x ∷ xs) (one_more h are) ∙ ap (λ ys. x ∷ ys) (sym (options_of_are rest xs are))

pub nothing_left : (d : List ℕ) → (length d == 0) ≡ true → HasOptions d
nothing_left [] h = ([], none)
nothing_left (x ∷ d) h = absurd (omega (arith, eqb-true (length (x ∷ d)) 0 h))

pub options_there : (d octets : List ℕ) → d ≡ octets → HasOptions d → OptionsAre octets (options_of d)
options_there d octets is (xs, are) = subst (λ x. OptionsAre x (options_of d)) is (subst (λ ys. OptionsAre d ys) (sym (options_of_are d xs are)) are)
