-- Hexadecimal, four digits at a time.
use Rattle.std.proofs.Common.{◌≡◌, ℕ, ◌+◌, ◌*◌, ◌/◌, ◌%◌, ◌<◌, ◌≤◌, List, [], ◌∷◌, ◌++◌, length, take, get_or, slice_set, ◌⊎◌, inl, inr, Result, Ok, Err, refl, sym, ap, ◌∙◌, arith, append_assoc, append-nil}
use Rattle.std.specs.Prelude.{Option, Some, None, IfSome}
use Rattle.std.proofs.lemmas.List.{length-set, take_all, take_more_set}
use Rattle.hex.specs.declared.error.FromHexError.{FromHexError}
use Rattle.hex.specs.Hex.{decode_of, decode_pairs, digit_or_error, hex_digit_value, pair_value, ◌>>=◌}
use Rattle.hex.proofs.HexLemmas.{decode_of-even}
use Rattle.hex.proofs.Pairs.{prepend, cons_byte, decode_pairs-ok_pair, decode_pairs-err_pair, prepend-cons_byte, take-two_writes}
use Rattle.dnw_zone_values.specs.Inside.Digits.{number_of_four}
use Rattle.dnw_zone_values.proofs.FourDigits.{hexadecimal_below}

-- the octet of two digits, of which the first is at i
abbrev pub pair_of : ℕ → ℕ → ℕ → Option ℕ → Option ℕ → Result ℕ FromHexError
pair_of a b i x y = do
  h ← digit_or_error a i x
  l ← digit_or_error b (i + 1) y
  Ok (h * 16 + l)

-- two octets are the number of four digits
pub pairs_some : (a b c d i j n : ℕ) (x y z t : Option ℕ) → IfSome x (λ n. n < 16) → IfSome y (λ n. n < 16) → IfSome z (λ n. n < 16) → IfSome t (λ n. n < 16)
    → number_of_four 4096 256 16 x y z t ≡ Some n → (pair_of a b i x y ≡ Ok (n / 256)) × (pair_of c d j z t ≡ Ok (n % 256)) × (n < 65536)
pairs_some a b c d i j n None y z t hx hy hz ht is = cc
pairs_some a b c d i j n (Some p) None z t hx hy hz ht is = cc
pairs_some a b c d i j n (Some p) (Some q) None t hx hy hz ht is = cc
pairs_some a b c d i j n (Some p) (Some q) (Some r) None hx hy hz ht is = cc
pairs_some a b c d i j n (Some p) (Some q) (Some r) (Some s) hx hy hz ht is =
    let e : p * 4096 + q * 256 + r * 16 + s ≡ n = cc in
    let high : p * 16 + q ≡ n / 256 = omega (arith, e) in
    let low : r * 16 + s ≡ n % 256 = omega (arith, e) in
    (ap Ok high, ap Ok low, omega (arith, e))

-- there are none if one of the four is no digit
pub pairs_none : (a b c d i j : ℕ) (x y z t : Option ℕ) → number_of_four 4096 256 16 x y z t ≡ None
    → ((e : FromHexError) × (pair_of a b i x y ≡ Err e)) ⊎ ((m : ℕ) × (e : FromHexError) × (pair_of a b i x y ≡ Ok m) × (pair_of c d j z t ≡ Err e))
pairs_none a b c d i j None y z t is = inl (_, refl)
pairs_none a b c d i j (Some p) None z t is = inl (_, refl)
pairs_none a b c d i j (Some p) (Some q) None t is = inr (_, _, refl, refl)
pairs_none a b c d i j (Some p) (Some q) (Some r) None is = inr (_, _, refl, refl)
pairs_none a b c d i j (Some p) (Some q) (Some r) (Some s) is = cc

-- two octets more
pub two_more : (whole : Result (List ℕ) FromHexError) (room left rest : List ℕ) (at a b c d x y : ℕ) → at + 1 < length room → left ≡ a ∷ b ∷ c ∷ d ∷ rest
    → pair_value a b (2 * at) ≡ Ok x → pair_value c d (2 * at + 2) ≡ Ok y → whole ≡ prepend (take at room) (decode_pairs (2 * at) left)
    → whole ≡ prepend (take (at + 2) (slice_set (slice_set room at x) (at + 1) y)) (decode_pairs (2 * (at + 2)) rest)
two_more whole room left rest at a b c d x y fits is first second so_far =
    let end : 2 * at + 2 + 2 ≡ 2 * (at + 2) = omega arith in
    let here : decode_pairs (2 * at) left ≡ cons_byte x (cons_byte y (decode_pairs (2 * (at + 2)) rest)) =
    ap (decode_pairs (2 * at)) is ∙ decode_pairs-ok_pair (2 * at) a b x (c ∷ d ∷ rest) first
    ∙ ap (cons_byte x) (decode_pairs-ok_pair (2 * at + 2) c d y rest second ∙ ap (λ (k : ℕ). cons_byte y (decode_pairs k rest)) end) in
    let after = decode_pairs (2 * (at + 2)) rest in
    so_far ∙ ap (prepend (take at room)) here ∙ prepend-cons_byte (take at room) x (cons_byte y after) ∙ prepend-cons_byte (take at room ++ x ∷ []) y after
    ∙ ap (λ (front : List ℕ). prepend front after) (append_assoc (take at room) (x ∷ []) (y ∷ []) ∙ sym (take-two_writes room at x y fits))

-- no octets are spelled if there is another character than a digit
pub none_left : (whole : Result (List ℕ) FromHexError) (front left rest : List ℕ) (i a b c d : ℕ) → left ≡ a ∷ b ∷ c ∷ d ∷ rest
    → number_of_four 4096 256 16 (hex_digit_value a) (hex_digit_value b) (hex_digit_value c) (hex_digit_value d) ≡ None
    → whole ≡ prepend front (decode_pairs i left) → (octets : List ℕ) → whole ≡ Ok octets → ⊥
none_left whole front left rest i a b c d is none so_far octets ok = elim (pairs_none a b c d i (i + 2) (hex_digit_value a) (hex_digit_value b) (hex_digit_value c) (hex_digit_value d) none) [
  | inl bad ↦
      let fails : whole ≡ Err bad.0 = so_far ∙ ap (prepend front) (ap (decode_pairs i) is ∙ decode_pairs-err_pair i a b bad.0 (c ∷ d ∷ rest) bad.1) in
      cc (sym ok ∙ fails)
  | inr bad ↦
      let fails : whole ≡ Err bad.1 =
      so_far ∙ ap (prepend front) (ap (decode_pairs i) is ∙ decode_pairs-ok_pair i a b bad.0 (c ∷ d ∷ rest) bad.2 ∙ ap (cons_byte bad.0) (decode_pairs-err_pair (i + 2) c d bad.1 rest bad.3)) in
      cc (sym ok ∙ fails)
]

-- none is left
pub all_put : (text room left : List ℕ) (len : ℕ) → length text % 2 ≡ 0 → length left ≡ 0 → length room ≤ len
    → decode_pairs 0 text ≡ prepend (take len room) (decode_pairs (2 * len) left) → decode_of text ≡ Ok room
unfolding decode_pairs
all_put text room [] len even none past so_far = decode_of-even text even ∙ so_far ∙ ap Ok (append-nil (take len room) ∙ take_all len room past)
all_put text room (x ∷ xs) len even none past so_far = absurd (omega (arith, none))

two_parts : (xs : List ℕ) → length xs ≡ 2 → xs ≡ get_or xs 0 0 ∷ get_or xs 1 0 ∷ []
two_parts [] two = absurd (omega (arith, two))
two_parts (a ∷ []) two = absurd (omega (arith, two))
two_parts (a ∷ b ∷ []) two = refl
two_parts (a ∷ b ∷ c ∷ xs) two = absurd (omega (arith, two))

-- two digits are left: their number is that of four with zeros before them
module _ (text room left : List ℕ) (len : ℕ) (two : length left ≡ 2) (size : 2 * len + 2 ≡ length text) (so_far : decode_pairs 0 text ≡ prepend (take len room) (decode_pairs (2 * len) left)) where
  abbrev a : ℕ
  a = get_or left 0 0

  abbrev b : ℕ
  b = get_or left 1 0

  pub last_put : (n : ℕ) → length room ≡ len + 1 → number_of_four 4096 256 16 (hex_digit_value 48) (hex_digit_value 48) (hex_digit_value a) (hex_digit_value b) ≡ Some n
      → decode_of text ≡ Ok (slice_set room len n)
  last_put n fits is =
      let pairs = pairs_some 48 48 a b 0 (2 * len) n (Some 0) (Some 0) (hex_digit_value a) (hex_digit_value b) (omega arith) (omega arith) (hexadecimal_below a) (hexadecimal_below b) is in
      let zero : 0 ≡ n / 256 = cc pairs.0 in
      let same : n % 256 ≡ n = omega (arith, zero) in
      let done : decode_pairs 0 text ≡ prepend (take (len + 1) (slice_set room len n)) (decode_pairs (2 * len + 2) []) =
      so_far ∙ ap (prepend (take len room)) (ap (decode_pairs (2 * len)) (two_parts left two) ∙ decode_pairs-ok_pair (2 * len) a b n [] (pairs.1 ∙ ap Ok same))
      ∙ prepend-cons_byte (take len room) n (decode_pairs (2 * len + 2) []) ∙ ap (λ (front : List ℕ). prepend front (decode_pairs (2 * len + 2) [])) (sym (take_more_set room len n (omega (arith, fits)))) in
      let end : 2 * len + 2 ≡ 2 * (len + 1) = omega arith in
      all_put text (slice_set room len n) [] (len + 1) (omega (arith, size)) refl (omega (arith, length-set room len n, fits)) (rw end at done)

  pub none_last : number_of_four 4096 256 16 (hex_digit_value 48) (hex_digit_value 48) (hex_digit_value a) (hex_digit_value b) ≡ None → (octets : List ℕ) → decode_of text ≡ Ok octets → ⊥
  none_last none octets ok = elim (pairs_none 48 48 a b 0 (2 * len) (Some 0) (Some 0) (hex_digit_value a) (hex_digit_value b) none) [
    | inl bad ↦ cc bad.1
    | inr bad ↦
        let fails : decode_pairs 0 text ≡ Err bad.1 = so_far ∙ ap (prepend (take len room)) (ap (decode_pairs (2 * len)) (two_parts left two) ∙ decode_pairs-err_pair (2 * len) a b bad.1 [] bad.3) in
        cc (sym ok ∙ decode_of-even text (omega (arith, size)) ∙ fails)
  ]
