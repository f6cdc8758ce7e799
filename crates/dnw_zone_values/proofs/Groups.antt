-- Texts that are read group by group.
use Rattle.std.proofs.Common.{◌≡◌, ℕ, ◌<◌, ◌≤◌, ◌-◌, ◌==◌, false, List, [], ◌∷◌, ◌++◌, length, take, drop, get_or, map, refl, sym, ap, ◌∙◌, arith, append_assoc, length-drop}
use Rattle.std.specs.Prelude.{Option, Some, None}
use Rattle.std.proofs.lemmas.List.{take_all}
use Rattle.dnw_zone_values.specs.Pairs.{hyphen, pair_octet, with_front, pairs_octets}
use Rattle.dnw_zone_values.specs.Base32.{base32_text, base32_five, base32_value, base32_octets, base32_first, base32_second, base32_third, base32_fourth, base32_fifth}
use Rattle.dnw_zone_values.specs.Inside.Takes.{after}

pub after_nil : (octets : Option (List ℕ)) → octets ≡ after [] octets
after_nil None = refl
after_nil (Some own) = refl

pub after_all : (found own : List ℕ) (octets : Option (List ℕ)) → after found (after own octets) ≡ after (found ++ own) octets
after_all found own None = refl
after_all found own (Some others) = ap Some (sym (append_assoc found own others))

-- the rest of a slice after some octets
pub rest : (k n : ℕ) (xs : List ℕ) → n ≡ length xs - k → take n (drop k xs) ≡ drop k xs
rest k n xs e = take_all n (drop k xs) (omega (arith, e, length-drop k xs))

-- one pair more
pub pair : (xs : List ℕ) → 3 ≤ length xs
    → (get_or xs 2 0 ≡ hyphen → pairs_octets xs ≡ with_front (pair_octet (get_or xs 0 0) (get_or xs 1 0)) (pairs_octets (drop 3 xs)))
    × ((get_or xs 2 0 == hyphen) ≡ false → pairs_octets xs ≡ None)
    × (pair_octet (get_or xs 0 0) (get_or xs 1 0) ≡ None → pairs_octets xs ≡ None)
pair [] few = absurd (omega arith)
pair (a ∷ []) few = absurd (omega arith)
pair (a ∷ b ∷ []) few = absurd (omega arith)
pair (a ∷ b ∷ c ∷ xs) few = ((λ e. rw e refl), (λ e. rw e refl), (λ e. rw e (grind arith)))

-- five octets more
pub five : (xs : List ℕ) → 5 ≤ length xs
    → base32_text xs ≡ base32_five (get_or xs 0 0) (get_or xs 1 0) (get_or xs 2 0) (get_or xs 3 0) (get_or xs 4 0) ++ base32_text (drop 5 xs)
five [] few = absurd (omega arith)
five (a ∷ []) few = absurd (omega arith)
five (a ∷ b ∷ []) few = absurd (omega arith)
five (a ∷ b ∷ c ∷ []) few = absurd (omega arith)
five (a ∷ b ∷ c ∷ d ∷ []) few = absurd (omega arith)
five (a ∷ b ∷ c ∷ d ∷ e ∷ xs) few = refl

-- the octets of eight digits
abbrev pub of_eight : (a b c d e f g h : ℕ) → List ℕ
of_eight a b c d e f g h = base32_first a b ∷ base32_second b c d ∷ base32_third d e ∷ base32_fourth e f g ∷ base32_fifth g h ∷ []

-- a slice that begins with eight
pub eight_parts : (xs : List ℕ) (n : ℕ) → 8 ≤ length xs → n ≡ length xs - 8
    → xs ≡ get_or xs 0 0 ∷ get_or xs 1 0 ∷ get_or xs 2 0 ∷ get_or xs 3 0 ∷ get_or xs 4 0 ∷ get_or xs 5 0 ∷ get_or xs 6 0 ∷ get_or xs 7 0 ∷ take n (drop 8 xs)
eight_parts [] n few is = absurd (omega arith)
eight_parts (a ∷ []) n few is = absurd (omega arith)
eight_parts (a ∷ b ∷ []) n few is = absurd (omega arith)
eight_parts (a ∷ b ∷ c ∷ []) n few is = absurd (omega arith)
eight_parts (a ∷ b ∷ c ∷ d ∷ []) n few is = absurd (omega arith)
eight_parts (a ∷ b ∷ c ∷ d ∷ e ∷ []) n few is = absurd (omega arith)
eight_parts (a ∷ b ∷ c ∷ d ∷ e ∷ f ∷ []) n few is = absurd (omega arith)
eight_parts (a ∷ b ∷ c ∷ d ∷ e ∷ f ∷ g ∷ []) n few is = absurd (omega arith)
eight_parts (a ∷ b ∷ c ∷ d ∷ e ∷ f ∷ g ∷ h ∷ xs) n few is = ap (λ (ys : List ℕ). a ∷ b ∷ c ∷ d ∷ e ∷ f ∷ g ∷ h ∷ ys) (sym (take_all n xs (omega (arith, is))))

pub pair_more : (text xs found : List ℕ) (o n : ℕ) → 3 ≤ length xs → n ≡ length xs - 3 → pairs_octets text ≡ after found (pairs_octets xs)
    → pair_octet (get_or xs 0 0) (get_or xs 1 0) ≡ Some o → get_or xs 2 0 ≡ hyphen
    → pairs_octets text ≡ after (found ++ o ∷ []) (pairs_octets (take n (drop 3 xs)))
pair_more text xs found o n few size so_far octet is =
    let here : pairs_octets xs ≡ with_front (Some o) (pairs_octets (drop 3 xs)) = (pair xs few).0 is ∙ ap (λ (x : Option ℕ). with_front x (pairs_octets (drop 3 xs))) octet in
    so_far ∙ ap (after found) here ∙ after_all found (o ∷ []) (pairs_octets (drop 3 xs)) ∙ ap (λ (ys : List ℕ). after (found ++ o ∷ []) (pairs_octets ys)) (sym (rest 3 n xs size))

pub five_more : (done xs whole digits : List ℕ) (n : ℕ) → 5 ≤ length xs → n ≡ length xs - 5 → done ++ base32_text xs ≡ whole
    → digits ≡ base32_five (get_or xs 0 0) (get_or xs 1 0) (get_or xs 2 0) (get_or xs 3 0) (get_or xs 4 0)
    → (done ++ digits) ++ base32_text (take n (drop 5 xs)) ≡ whole
five_more done xs whole digits n few size so_far is =
    append_assoc done digits (base32_text (take n (drop 5 xs)))
    ∙ ap (λ (ys : List ℕ). done ++ (digits ++ base32_text ys)) (rest 5 n xs size)
    ∙ ap (λ (ys : List ℕ). done ++ (ys ++ base32_text (drop 5 xs))) is ∙ ap (λ (ys : List ℕ). done ++ ys) (sym (five xs few)) ∙ so_far

-- no octets have six digits
pub no_six : (xs : List ℕ) → 6 ≤ length xs → length xs < 7 → base32_octets (map base32_value xs) ≡ None
no_six [] few most = absurd (omega arith)
no_six (a ∷ []) few most = absurd (omega arith)
no_six (a ∷ b ∷ []) few most = absurd (omega arith)
no_six (a ∷ b ∷ c ∷ []) few most = absurd (omega arith)
no_six (a ∷ b ∷ c ∷ d ∷ []) few most = absurd (omega arith)
no_six (a ∷ b ∷ c ∷ d ∷ e ∷ []) few most = absurd (omega arith)
no_six (a ∷ b ∷ c ∷ d ∷ e ∷ f ∷ []) few most = refl
no_six (a ∷ b ∷ c ∷ d ∷ e ∷ f ∷ g ∷ xs) few most = absurd (omega arith)
