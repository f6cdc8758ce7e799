-- IPv6 addresses, identifiers and octets in base 64 are read as they were printed.
use Rattle.std.proofs.Common.{◌≡◌, ◌≢◌, ℕ, zero, suc, ◌/◌, ◌%◌, ◌<◌, ◌≤◌, ◌^◌, true, List, [], ◌∷◌, length, drop, refl, sym, ap, ◌∙◌, subst, arith, append-nil}
use Rattle.std.specs.Int.{w64, to_be_bytes, from_be_bytes}
use Rattle.std.specs.Net.Addr.{ipv6_segments, IsIpv6Addr}
use Rattle.std.specs.Net.Grammar.{IsColonHex}
use Rattle.std.specs.Net.Text.{ipv6_text}
use Rattle.std.specs.declared.net.Ipv6Addr.{Ipv6Addr}
use Rattle.std.proofs.NetLemmas.Texts.{IsColonHex-ipv6_text}
use Rattle.std.proofs.lemmas.Nat.{from_be_bytes-to_be_bytes_8}
use Rattle.dnw_data.specs.declared.kind.Kind.TheVariants.{U48, U64, Ipv6, Octets}
use Rattle.dnw_data.specs.declared.kind.Shown.TheVariants.{Base64}
use Rattle.dnw_data.specs.Values.{u48, u64, ipv6, octets}
use Rattle.dnw_zone_values.specs.Pairs.{lower_digit, pairs_text}
use Rattle.dnw_zone_values.proofs.Identifiers.{pairs}
use Rattle.dnw_zone_values.specs.Numbers.{max_u48}
use Rattle.base64.proofs.EngineFacts.{encode_of-nil}
use Rattle.base64.specs.Engines.{standard}
use Rattle.dnw_zone_values.specs.Octets.{IsOctets, base64_text, IsBase64Text}
use Rattle.dnw_zone_values.proofs.ParamTextsBack.{bare_open, ipv6_bare, base64_open, base64_some}
use Rattle.dnw_zone_values.proofs.Steps.{no_colon_hex}
use Rattle.dnw_zone_data.specs.Words.{is_end, word, after_spaces, without_spaces}
use Rattle.dnw_zone_data.specs.Parsing.{ReadsField}
use Rattle.dnw_zone_data.specs.Generic.{generic_mark}
use Rattle.dnw_zone_data.specs.Printing.{base64_part}
use Rattle.dnw_zone_data.specs.DataTextLaws.{FieldComesBack}
use Rattle.dnw_zone_data.proofs.Plain.{is_plain, all_plain, plain_starts, plain_joined}
use Rattle.dnw_zone_data.proofs.FieldsBack.{plain_by, plain_no_mark, some_given}

-- ---- IPv6 addresses

some_of : (w : List ℕ) → (w ≡ [] → ⊥) → 0 < length w
some_of [] h = absurd (h refl)
some_of (c ∷ w) h = omega arith

pub ipv6_some : (a : Ipv6Addr) → IsColonHex (ipv6_text (ipv6_segments a)) (ipv6_segments a) → 0 < length (ipv6_text (ipv6_segments a))
ipv6_some a is =
    some_of (ipv6_text (ipv6_segments a))
    (λ none. no_colon_hex (ipv6_segments a) (subst (λ (w : List ℕ). IsColonHex w (ipv6_segments a)) none is))

pub ipv6_back : (a : Ipv6Addr) → IsIpv6Addr a → FieldComesBack Ipv6 (ipv6 (ipv6_segments a))
ipv6_back a is origin way printed rest print end =
    let w = ipv6_text (ipv6_segments a) in
    let plain : all_plain w ≡ true = bare_open w (ipv6_bare (ipv6_segments a) is.1) in
    plain_by origin way Ipv6 printed w rest (ipv6 (ipv6_segments a)) refl print plain (ipv6_some a (IsColonHex-ipv6_text _ is.0 is.1)) end.1 (a, IsColonHex-ipv6_text _ is.0 is.1, refl)

-- ---- identifiers

lower_plain : (n : ℕ) → n < 16 → is_plain (lower_digit n) ≡ true
lower_plain n h = grind arith

pairs_plain : (own : List ℕ) → IsOctets own → all_plain (pairs_text own) ≡ true
pairs_plain [] h = refl
pairs_plain (o ∷ []) h = rw (lower_plain (o / 16) (omega (arith, h 0)), lower_plain (o % 16) (omega arith)) refl
pairs_plain (o ∷ p ∷ own) h = rw (lower_plain (o / 16) (omega (arith, h 0)), lower_plain (o % 16) (omega arith)) (pairs_plain (p ∷ own) (λ i. h (suc i)))

pub six_fit : (n : ℕ) → IsOctets (drop 2 (to_be_bytes w64 n))
six_fit n zero = omega arith
six_fit n (suc zero) = omega arith
six_fit n (suc (suc zero)) = omega arith
six_fit n (suc (suc (suc zero))) = omega arith
six_fit n (suc (suc (suc (suc zero)))) = omega arith
six_fit n (suc (suc (suc (suc (suc zero))))) = omega arith
six_fit n (suc (suc (suc (suc (suc (suc i)))))) = omega arith

pub eight_fit : (n : ℕ) → IsOctets (to_be_bytes w64 n)
eight_fit n zero = omega arith
eight_fit n (suc zero) = omega arith
eight_fit n (suc (suc i)) = six_fit n i

lead : (a b : ℕ) (own : List ℕ) → a ≡ 0 → b ≡ 0 → 0 ∷ 0 ∷ own ≡ a ∷ b ∷ own
lead a b own p q = rw (p, q) refl

pub eui48_back : (n : ℕ) → n ≤ max_u48 → FieldComesBack U48 (u48 n)
eui48_back n few origin way printed rest print end =
    let own = drop 2 (to_be_bytes w64 n) in
    let w = pairs_text own in
    let plain = pairs_plain own (six_fit n) in
    let a : n / 72057594037927936 % 256 ≡ 0 = omega (arith, few) in
    let b : n / 281474976710656 % 256 ≡ 0 = omega (arith, few) in
    let back : from_be_bytes w64 (0 ∷ 0 ∷ own) ≡ n = ap (from_be_bytes w64) (lead _ _ own a b) ∙ from_be_bytes-to_be_bytes_8 n (omega (arith, few)) in
    plain_by origin way U48 printed w rest (u48 n) refl print plain (omega arith) end.1 (own, (pairs own (six_fit n, omega arith)).0, refl, ap u48 (sym back))

pub eui64_back : (n : ℕ) → n < 2 ^ 64 → FieldComesBack U64 (u64 n)
eui64_back n few origin way printed rest print end =
    let own = to_be_bytes w64 n in
    let w = pairs_text own in
    let fit = eight_fit n in
    let plain = pairs_plain own fit in
    plain_by origin way U64 printed w rest (u64 n) refl print plain (omega arith) end.1
    (own, (pairs own (fit, omega arith)).0, refl, ap u64 (sym (from_be_bytes-to_be_bytes_8 n few)))

-- ---- octets in base 64

base64_words : (own : List ℕ) → IsOctets own → IsBase64Text (without_spaces (after_spaces (base64_part own))) own
base64_words [] h = (h, sym (encode_of-nil standard))
base64_words (o ∷ own) h =
    let text = base64_text (o ∷ own) in
    let plain : all_plain text ≡ true = base64_open (o ∷ own) h in
    let starts : after_spaces text ≡ text = ap after_spaces (sym (append-nil text)) ∙ plain_starts text [] plain (base64_some o own) ∙ append-nil text in
    let whole : without_spaces (after_spaces text) ≡ text = ap without_spaces starts ∙ plain_joined text plain in
    rw whole (h, refl)

base64_no_mark : (own : List ℕ) → IsOctets own → word (after_spaces (base64_part own)) ≢ generic_mark
base64_no_mark [] h e = cc
base64_no_mark (o ∷ own) h e = plain_no_mark (base64_text (o ∷ own)) (base64_open (o ∷ own) h) e

base64_end : (own : List ℕ) → is_end (base64_part own) ≡ true
base64_end [] = refl
base64_end (o ∷ own) = refl

pub base64_back : (own : List ℕ) → IsOctets own → FieldComesBack (Octets Base64) (octets own)
base64_back own is origin way printed rest print end =
    let none : rest ≡ [] = end.0 refl in
    let reads : ReadsField origin way (Octets Base64) (after_spaces (base64_part own)) (octets own) [] = ((own, (base64_words own is, some_given way own print.0), refl), refl) in
    rw (none, print.1, append-nil) (reads, base64_no_mark own is, base64_end own)
