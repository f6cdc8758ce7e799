-- What is printed of an address prefix is parsed as it.
use Rattle.std.proofs.Common.{◌≡◌, ℕ, zero, suc, ◌+◌, ◌-◌, ◌*◌, ◌%◌, ◌<◌, ◌≤◌, Bool, true, false, ◌&&◌, ◌||◌, ◌==◌, List, [], ◌∷◌, ◌++◌, length, take, drop, codes, decimal, refl, sym, ap, ◌∙◌, subst, arith, All, length-append, inl, inr}
use Rattle.std.specs.Prelude.{bytes_eq, nat_le, replicate}
use Rattle.std.specs.Int.{w16, to_be_bytes}
use Rattle.std.specs.List.{list_all}
use Rattle.std.specs.Str.{IsUtf8, IsAscii}
use Rattle.std.specs.Net.Addr.{octets_of, segments_of}
use Rattle.std.specs.declared.net.Ipv4Addr.{Ipv4Addr}
use Rattle.std.specs.declared.net.Ipv6Addr.{Ipv6Addr}
use Rattle.std.specs.Net.Text.{ipv4_text, ipv6_text, hex_groups_text}
use Rattle.std.proofs.NetLemmas.Alphabet.{IsDigitOrDot, IsHexOrColon, All-ipv4_text, All-hex_groups_text}
use Rattle.std.proofs.NetLemmas.Texts.{AllSegments, AllSegments-drop, IsDotted-ipv4_text, IsColonHex-ipv6_text}
use Rattle.std.proofs.lemmas.Bool.{and_parts, cases_Bool, cond_both, leb-true, eqb-true}
use Rattle.std.proofs.lemmas.List.{length-replicate}
use Rattle.std.proofs.lemmas.Str.{IsUtf8-from_ascii}
use Rattle.std.proofs.lemmas.Str.Ascii.{IsAscii-nil, IsAscii-cons}
use Rattle.dnw_zone_values.specs.Numbers.{max_u16, IsNumberText}
use Rattle.dnw_zone_values.specs.Octets.{IsOctets}
use Rattle.dnw_zone_values.specs.Prefixes.{colon, slash, before, after, after_negation, is_negation, without_zeros, counted_with, prefix_wire, with_zeros, ends_in_no_zero, is_shown, is_shown_of, negation_text, prefix_address_text, IsPrefixOf, IsFamilyText, IsPrefixText, PrefixTextsComeBack}
use Rattle.dnw_zone_values.proofs.ComeBack.{numbers}
use Rattle.dnw_zone_values.proofs.ParamTextsBack.{octets_fit, segments_fit, halves}
use Rattle.dnw_zone_values.proofs.PrefixesBack.{is_other, before_at, after_at, padded_back}

-- ---- the characters of addresses

-- a digit, a colon, a letter up to `f`, or a dot
abbrev pub is_address : ℕ → Bool
is_address c = (nat_le 48 c && nat_le c 58) || (nat_le 97 c && nat_le c 102) || (c == 46)

abbrev pub all_address : List ℕ → Bool
all_address t = list_all is_address t

dotted_one : (c : ℕ) → IsDigitOrDot c → is_address c ≡ true
dotted_one c (inl h) = grind arith
dotted_one c (inr h) = grind arith

hex_one : (c : ℕ) → IsHexOrColon c → is_address c ≡ true
hex_one c (inl h) = grind arith
hex_one c (inr h) = grind arith

dotted_all : (t : List ℕ) → All IsDigitOrDot t → all_address t ≡ true
dotted_all [] h = refl
dotted_all (c ∷ t) h = rw (dotted_one c (h 0 0 (omega arith))) (dotted_all t (λ i d within. h (suc i) d (omega (arith, within))))

hex_all : (t : List ℕ) → All IsHexOrColon t → all_address t ≡ true
hex_all [] h = refl
hex_all (c ∷ t) h = rw (hex_one c (h 0 0 (omega arith))) (hex_all t (λ i d within. h (suc i) d (omega (arith, within))))

pub ipv4_address : (own : List ℕ) → IsOctets own → all_address (ipv4_text own) ≡ true
ipv4_address own h = dotted_all (ipv4_text own) (All-ipv4_text own h)

pub ipv6_address : (xs : List ℕ) → AllSegments xs → all_address (ipv6_text xs) ≡ true
unfolding ipv6_text
ipv6_address xs fits =
    let o = octets_of (drop 6 xs) in
    cond_both (bytes_eq (take 6 xs) (0 ∷ 0 ∷ 0 ∷ 0 ∷ 0 ∷ 0xffff ∷ [])) (codes "::ffff:" ++ ipv4_text o) (hex_groups_text xs) (λ t. all_address t ≡ true)
    (λ _. dotted_all (ipv4_text o) (All-ipv4_text o (octets_fit (drop 6 xs) (AllSegments-drop 6 xs fits)))) (λ _. hex_all (hex_groups_text xs) (All-hex_groups_text xs fits))

no_slash : (c : ℕ) → is_address c ≡ true → is_other slash c ≡ true
no_slash c h = grind arith

address_open : (t : List ℕ) → all_address t ≡ true → list_all (is_other slash) t ≡ true
address_open [] h = refl
address_open (c ∷ t) h = let parts = and_parts (is_address c) (all_address t) h in rw (no_slash c parts.0) (address_open t parts.1)

address_low : (c : ℕ) → is_address c ≡ true → c < 128
address_low c h = grind arith

address_ascii : (t : List ℕ) → all_address t ≡ true → IsAscii t
address_ascii [] h = IsAscii-nil
address_ascii (c ∷ t) h = let parts = and_parts (is_address c) (all_address t) h in IsAscii-cons c t (address_low c parts.0) (address_ascii t parts.1)

address_utf8 : (t : List ℕ) → all_address t ≡ true → IsUtf8 t
address_utf8 t h = IsUtf8-from_ascii t (address_ascii t h)

-- ---- padding

zeros_fit : (n : ℕ) → IsOctets (replicate n 0)
zeros_fit zero i = omega arith
zeros_fit (suc n) zero = omega arith
zeros_fit (suc n) (suc i) = zeros_fit n i

padding_fit : (xs : List ℕ) (n : ℕ) → IsOctets xs → IsOctets (xs ++ replicate n 0)
padding_fit [] n h i = zeros_fit n i
padding_fit (x ∷ xs) n h zero = h 0
padding_fit (x ∷ xs) n h (suc i) = padding_fit xs n (λ j. h (suc j)) i

pub padded_fit : (size : ℕ) (xs : List ℕ) → IsOctets xs → IsOctets (with_zeros size xs)
padded_fit size xs h = padding_fit xs (size - length xs) h

pub padded_size : (size : ℕ) (xs : List ℕ) → length xs ≤ size → length (with_zeros size xs) ≡ size
padded_size size xs few = omega (arith, few, length-append xs (replicate (size - length xs) 0), length-replicate {A = ℕ} (size - length xs) 0)

-- ---- the parts of a text

of_text : (text rest own : List ℕ) (n : Bool) → is_negation text ≡ n → after_negation text ≡ rest → IsFamilyText n rest own → IsPrefixText text own
of_text text rest own n e f h =
    subst (λ (b : Bool). IsFamilyText b (after_negation text) own) (sym e) (subst (λ (t : List ℕ). IsFamilyText n t own) (sym f) h)

of_parts : (n : Bool) (text number rest address size own : List ℕ) (f : ℕ) → before colon text ≡ number → after colon text ≡ rest → before slash rest ≡ address
    → after slash rest ≡ size → IsNumberText max_u16 number f → IsPrefixOf f n address size own → IsFamilyText n text own
of_parts n text number rest address size own f a b c d num is = rw (a, b, c, d) (f, num, is)

-- after `!` or nothing, a text that begins with a digit
marked : (n : Bool) (c : ℕ) (text own : List ℕ) → (c == 33) ≡ false → IsFamilyText n (c ∷ text) own → IsPrefixText (negation_text n ++ c ∷ text) own
marked true c text own h is = is
marked false c text own h is = of_text (c ∷ text) (c ∷ text) own false h (rw h refl) is

-- a prefix of IPv4 with these parts
ipv4_parts : (n : Bool) (t size own : List ℕ) → all_address t ≡ true → IsPrefixOf 1 n t size own → IsPrefixText (negation_text n ++ 49 ∷ 58 ∷ (t ++ slash ∷ size)) own
ipv4_parts n t size own h is =
    let u = t ++ slash ∷ size in
    let stays = address_open t h in
    let family : IsFamilyText n (49 ∷ 58 ∷ u) own =
    of_parts n (49 ∷ 58 ∷ u) (49 ∷ []) u t size own 1 refl refl (before_at slash t size stays) (after_at slash t size stays) ((omega arith, (omega arith, tt)), refl, omega arith) is in
    marked n 49 (58 ∷ u) own refl family

ipv6_parts : (n : Bool) (t size own : List ℕ) → all_address t ≡ true → IsPrefixOf 2 n t size own → IsPrefixText (negation_text n ++ 50 ∷ 58 ∷ (t ++ slash ∷ size)) own
ipv6_parts n t size own h is =
    let u = t ++ slash ∷ size in
    let stays = address_open t h in
    let family : IsFamilyText n (50 ∷ 58 ∷ u) own =
    of_parts n (50 ∷ 58 ∷ u) (50 ∷ []) u t size own 2 refl refl (before_at slash t size stays) (after_at slash t size stays) ((omega arith, (omega arith, tt)), refl, omega arith) is in
    marked n 50 (58 ∷ u) own refl family

-- ---- the octets

low_count : (d len : ℕ) → nat_le 128 d ≡ false → d % 128 ≡ len → d ≡ len
low_count d len low e = grind (arith, low, e)

counted_back : (d len : ℕ) → d < 256 → d % 128 ≡ len → d ≡ counted_with (nat_le 128 d) len
counted_back d len fits e = elim (cases_Bool (nat_le 128 d)) [
  | inl high ↦ let le = leb-true 128 d high in rw high (omega (arith, le, e, fits))
  | inr low ↦ rw low (low_count d len low e)
]

wire_back : (family a b c d : ℕ) (xs ys : List ℕ) → a * 256 + b ≡ family → b < 256 → d ≡ counted_with (nat_le 128 d) (length xs) → ys ≡ xs
    → to_be_bytes w16 family ≡ a ∷ b ∷ [] → a ∷ b ∷ c ∷ d ∷ xs ≡ prefix_wire family (nat_le 128 d) c ys
wire_back family a b c d xs ys e fits count same two =
    let n = nat_le 128 d in
    ap (λ (k : ℕ). a ∷ b ∷ c ∷ k ∷ xs) count ∙ ap (λ (front : List ℕ). front ++ c ∷ counted_with n (length xs) ∷ xs) (sym two)
    ∙ ap (λ (zs : List ℕ). to_be_bytes w16 family ++ c ∷ counted_with n (length zs) ∷ zs) (sym same)

ipv4_wire : (a b : ℕ) → b < 256 → a * 256 + b ≡ 1 → to_be_bytes w16 1 ≡ a ∷ b ∷ []
ipv4_wire a b fits e = let p : a ≡ 0 = omega (arith, e) in let q : b ≡ 1 = omega (arith, e, fits) in rw (p, q) refl

ipv6_wire : (a b : ℕ) → b < 256 → a * 256 + b ≡ 2 → to_be_bytes w16 2 ≡ a ∷ b ∷ []
ipv6_wire a b fits e = let p : a ≡ 0 = omega (arith, e) in let q : b ≡ 2 = omega (arith, e, fits) in rw (p, q) refl

after_head : (a b c d : ℕ) (xs : List ℕ) → IsOctets (a ∷ b ∷ c ∷ d ∷ xs) → IsOctets xs
after_head a b c d xs h i = h (suc (suc (suc (suc i))))

ipv4_of : (a b c d : ℕ) (xs : List ℕ) → IsOctets (a ∷ b ∷ c ∷ d ∷ xs) → a * 256 + b ≡ 1 → d % 128 ≡ length xs → is_shown_of 1 c xs ≡ true
    → IsPrefixOf 1 (nat_le 128 d) (ipv4_text (with_zeros 4 xs)) (decimal c) (a ∷ b ∷ c ∷ d ∷ xs)
ipv4_of a b c d xs h one count shown =
    let parts = and_parts (nat_le c 32) (nat_le (length xs) 4 && ends_in_no_zero xs) shown in
    let sizes = and_parts (nat_le (length xs) 4) (ends_in_no_zero xs) parts.1 in
    let o = with_zeros 4 xs in
    let fit = padded_fit 4 xs (after_head a b c d xs h) in
    let is = IsDotted-ipv4_text o (padded_size 4 xs (leb-true (length xs) 4 sizes.0)) fit in
    let address : Ipv4Addr = record { octets = o } in
    let wire = wire_back 1 a b c d xs (without_zeros o) one (h 1) (counted_back d (length xs) (h 3) count) (padded_back 4 xs sizes.1) (ipv4_wire a b (h 1) one) in
    (c, o, inl (refl, address, address_utf8 (ipv4_text o) (ipv4_address o fit), is, refl), (numbers 32 (omega arith) c (leb-true c 32 parts.0)).0, wire)

ipv6_of : (a b c d : ℕ) (xs : List ℕ) → IsOctets (a ∷ b ∷ c ∷ d ∷ xs) → a * 256 + b ≡ 2 → d % 128 ≡ length xs → is_shown_of 2 c xs ≡ true
    → IsPrefixOf 2 (nat_le 128 d) (ipv6_text (segments_of (with_zeros 16 xs))) (decimal c) (a ∷ b ∷ c ∷ d ∷ xs)
ipv6_of a b c d xs h two count shown =
    let parts = and_parts (nat_le c 128) (nat_le (length xs) 16 && ends_in_no_zero xs) shown in
    let sizes = and_parts (nat_le (length xs) 16) (ends_in_no_zero xs) parts.1 in
    let o = with_zeros 16 xs in
    let s = segments_of o in
    let fit = padded_fit 16 xs (after_head a b c d xs h) in
    let segments = segments_fit o fit in
    let half = halves o 8 fit (padded_size 16 xs (leb-true (length xs) 16 sizes.0)) in
    let is = IsColonHex-ipv6_text s half.0 segments in
    let address : Ipv6Addr = record { segments = s } in
    let wire = wire_back 2 a b c d xs (without_zeros o) two (h 1) (counted_back d (length xs) (h 3) count) (padded_back 16 xs sizes.1) (ipv6_wire a b (h 1) two) in
    (c, o, inr (refl, address, address_utf8 (ipv6_text s) (ipv6_address s segments), is, half.1), (numbers 128 (omega arith) c (leb-true c 128 parts.0)).0, wire)

-- ---- what is printed

-- the text of a prefix that is shown, by its parts
shown_back : (a b c d : ℕ) (xs : List ℕ) → IsOctets (a ∷ b ∷ c ∷ d ∷ xs) → is_shown (a ∷ b ∷ c ∷ d ∷ xs) ≡ true
    → IsPrefixText (negation_text (nat_le 128 d) ++ (prefix_address_text (a * 256 + b) xs ++ slash ∷ decimal c)) (a ∷ b ∷ c ∷ d ∷ xs)
shown_back a b c d xs h whole =
    let own = a ∷ b ∷ c ∷ d ∷ xs in
    let f = a * 256 + b in
    let t = and_parts (nat_le 4 (length own)) ((d % 128 == length own - 4) && (((f == 1) || (f == 2)) && is_shown_of f c xs)) whole in
    let u = and_parts (d % 128 == length own - 4) (((f == 1) || (f == 2)) && is_shown_of f c xs) t.1 in
    let v = and_parts ((f == 1) || (f == 2)) (is_shown_of f c xs) u.1 in
    let count : d % 128 ≡ length xs = let e = eqb-true (d % 128) (length own - 4) u.0 in omega (arith, e) in
    let n = nat_le 128 d in
    elim (cases_Bool (f == 1)) [
      | inl one ↦
          let e = eqb-true f 1 one in
          let shown : is_shown_of 1 c xs ≡ true = subst (λ (k : ℕ). is_shown_of k c xs ≡ true) e v.1 in
          subst (λ (k : ℕ). IsPrefixText (negation_text n ++ (prefix_address_text k xs ++ slash ∷ decimal c)) own) (sym e)
          (ipv4_parts n (ipv4_text (with_zeros 4 xs)) (decimal c) own (ipv4_address (with_zeros 4 xs) (padded_fit 4 xs (after_head a b c d xs h))) (ipv4_of a b c d xs h e count shown))
      | inr other ↦
          let two : (f == 2) ≡ true = rw other at v.0 in
          let e = eqb-true f 2 two in
          let shown : is_shown_of 2 c xs ≡ true = subst (λ (k : ℕ). is_shown_of k c xs ≡ true) e v.1 in
          let s = segments_of (with_zeros 16 xs) in
          subst (λ (k : ℕ). IsPrefixText (negation_text n ++ (prefix_address_text k xs ++ slash ∷ decimal c)) own) (sym e)
          (ipv6_parts n (ipv6_text s) (decimal c) own (ipv6_address s (segments_fit (with_zeros 16 xs) (padded_fit 16 xs (after_head a b c d xs h)))) (ipv6_of a b c d xs h e count shown))
    ]

pub prefix_back : PrefixTextsComeBack
prefix_back [] text h e = absurd cc
prefix_back (a ∷ []) text h e = absurd cc
prefix_back (a ∷ b ∷ []) text h e = absurd cc
prefix_back (a ∷ b ∷ c ∷ []) text h e = absurd cc
prefix_back (a ∷ b ∷ c ∷ d ∷ xs) text h e = elim (cases_Bool (is_shown (a ∷ b ∷ c ∷ d ∷ xs))) [
  | inl whole ↦
      let w = rw whole at e in
      let same : negation_text (nat_le 128 d) ++ (prefix_address_text (a * 256 + b) xs ++ slash ∷ decimal c) ≡ text = cc in
      subst (λ (t : List ℕ). IsPrefixText t (a ∷ b ∷ c ∷ d ∷ xs)) same (shown_back a b c d xs h whole)
  | inr other ↦ let wrong = rw other at e in absurd cc
]
