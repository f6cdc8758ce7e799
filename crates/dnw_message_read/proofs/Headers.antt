-- Headers that are written and read, and the other way.
use Rattle.std.proofs.Common.{◌≡◌, ℕ, suc, zero, ◌+◌, ◌-◌, ◌*◌, ◌/◌, ◌%◌, ◌^◌, ◌<◌, ◌≤◌, ◌==◌, Bool, true, false, List, [], ◌∷◌, ◌++◌, length, drop, find, unwrap_or, slice_index, slice_range, refl, sym, ap, ◌∙◌, arith}
use Rattle.std.specs.Int.{w16, bit_at, from_bool, to_be_bytes}
use Rattle.std.proofs.lemmas.Grind.{common_steps}
use Rattle.std.proofs.lemmas.Nat.{be_bytes_2, from_be_bytes-to_be_bytes_2}
use Rattle.dnw_message_read.specs.OpCodes.{op_code, op_of_code, named_ops}
use Rattle.dnw_message_read.specs.ResponseCodes.{response_code, response_of_code, named_responses}
use Rattle.dnw_message_read.specs.declared.op_code.OpCode.TheVariants as op
use Rattle.dnw_message_read.specs.declared.response_code.ResponseCode.TheVariants as rc
use Rattle.dnw_message_read.specs.declared.header.Header.{Header}
use Rattle.dnw_message_read.specs.declared.header.Metadata.{Metadata}
use Rattle.dnw_message_read.specs.declared.header.MessageType.{MessageType}
use Rattle.dnw_message_read.specs.declared.header.MessageType.TheVariants.{Query, Response}
use Rattle.dnw_message_read.specs.Headers.{flag, flags_of, header_field, header_wire, is_response, is_set, metadata_of, type_of_bit}
use Rattle.dnw_message_read.specs.HeaderLaws.{HeadersReadBack, HeadersWriteBack}

-- the first with a code, or another with it, has this code
code_of_first : {A : Type 0} (f : A → ℕ) (xs : List A) (other : A) (k : ℕ) → f other ≡ k
    → f (unwrap_or (find (λ x. f x == k) xs) other) ≡ k
code_of_first f [] other k h = h
code_of_first f (x ∷ xs) other k h = grind (arith, common_steps, code_of_first f xs other k h)

op_code_back : (k : ℕ) → op_code (op_of_code k) ≡ k
unfolding op_of_code
op_code_back k = code_of_first op_code named_ops (op.Unknown k) k refl

response_code_back : (k : ℕ) → response_code (response_of_code k) ≡ k
unfolding response_of_code
response_code_back k = code_of_first response_code named_responses (rc.Unknown k) k refl

-- ---- the flags of a header

test_back : (b : Bool) (x : ℕ) → x ≡ from_bool b → (x == 1) ≡ b
test_back true x h = rw h refl
test_back false x h = rw h refl

type_back : (kind : MessageType) → type_of_bit (is_response kind) ≡ kind
type_back Query = refl
type_back Response = refl

bool_most : (b : Bool) → from_bool b ≤ 1
bool_most true = omega arith
bool_most false = omega arith

is_set_flags : (m : Metadata) → (is_set (flags_of m) 15 ≡ is_response m.message_type) × (flags_of m / 2 ^ 11 % 16 ≡ op_code m.op_code % 16)
    × (is_set (flags_of m) 10 ≡ m.authoritative) × (is_set (flags_of m) 9 ≡ m.truncation) × (is_set (flags_of m) 8 ≡ m.recursion_desired)
    × (is_set (flags_of m) 7 ≡ m.recursion_available) × (is_set (flags_of m) 5 ≡ m.authentic_data) × (is_set (flags_of m) 4 ≡ m.checking_disabled)
    × (flags_of m % 16 ≡ response_code m.response_code % 16) × (flags_of m < 2 ^ 16)
is_set_flags m =
    let qr = bool_most (is_response m.message_type) in
    let aa = bool_most m.authoritative in
    let tc = bool_most m.truncation in
    let rd = bool_most m.recursion_desired in
    let ra = bool_most m.recursion_available in
    let ad = bool_most m.authentic_data in
    let cd = bool_most m.checking_disabled in (
      test_back _ _ (omega arith),
      omega arith,
      test_back _ _ (omega arith),
      test_back _ _ (omega arith),
      test_back _ _ (omega arith),
      test_back _ _ (omega arith),
      test_back _ _ (omega arith),
      test_back _ _ (omega arith),
      omega arith,
      omega arith,
    )

metadata_back : (m : Metadata) (n : ℕ) → n ≡ flags_of m → metadata_of m.id n
    ≡ record m { op_code = op_of_code (op_code m.op_code % 16); response_code = response_of_code (response_code m.response_code % 16) }
metadata_back m n h =
    let (qr, op, aa, tc, rd, ra, ad, cd, rcode, fits) = is_set_flags m in
    rw h (rw (qr, op, aa, tc, rd, ra, ad, cd, rcode, type_back m.message_type) refl)

abbrev header : Metadata → ℕ → ℕ → ℕ → ℕ → Header
header m queries answers authorities additionals = record {
  metadata = m;
  counts = record { queries = queries; answers = answers; authorities = authorities; additionals = additionals };
}

same_header : (m m' : Metadata) (a a' b b' c c' d d' : ℕ) → m ≡ m' → a ≡ a' → b ≡ b' → c ≡ c' → d ≡ d' → header m a b c d ≡ header m' a' b' c' d'
same_header m m' a a' b b' c c' d d' hm ha hb hc hd = rw (hm, ha, hb, hc, hd) refl

pub headers_read_back : HeadersReadBack
headers_read_back h fits =
    let back = from_be_bytes-to_be_bytes_2 in
    let (_, _, _, _, _, _, _, _, _, few) = is_set_flags h.metadata in
    let meta = metadata_back h.metadata _ (back (flags_of h.metadata) few) in
    same_header _ _ _ _ _ _ _ _ _ _ (ap (λ id. metadata_of id (header_field (header_wire h) 2)) (back h.metadata.id fits.0) ∙ meta)
    (back h.counts.queries fits.1) (back h.counts.answers fits.2) (back h.counts.authorities fits.3) (back h.counts.additionals fits.4)

-- ---- the flags of octets

set_number : (x : ℕ) → x < 2 → from_bool (x == 1) ≡ x
set_number zero h = refl
set_number (suc zero) h = refl
set_number (suc (suc x)) h = absurd (omega arith)

-- each bit of a number but bit 6, and two fields of four bits
all_bits : (n : ℕ) → n < 2 ^ 16
    → bit_at n 15 * 2 ^ 15 + n / 2 ^ 11 % 16 * 2 ^ 11 + bit_at n 10 * 2 ^ 10 + bit_at n 9 * 2 ^ 9 + bit_at n 8 * 2 ^ 8
    + bit_at n 7 * 2 ^ 7 + bit_at n 5 * 2 ^ 5 + bit_at n 4 * 2 ^ 4 + n % 16 ≡ n - bit_at n 6 * 2 ^ 6
all_bits n h = omega arith

response_back : (b : Bool) → is_response (type_of_bit b) ≡ b
response_back true = refl
response_back false = refl

flags_back : (id n : ℕ) → n < 2 ^ 16 → flags_of (metadata_of id n) ≡ n - flag (is_set n 6) 6
flags_back id n h =
    let set : (i : ℕ) → from_bool (is_set n i) ≡ bit_at n i = λ i. set_number (bit_at n i) (omega arith) in
    simp (response_back (is_set n 15), op_code_back (n / 2 ^ 11 % 16), response_code_back (n % 16), set 15, set 10, set 9, set 8, set 7, set 6, set 5, set 4)
    (omega (arith, all_bits n h))

-- ---- octets

pair : (octets : List ℕ) (p : ℕ) → p + 2 ≤ length octets → ((i : ℕ) → slice_index octets i < 256)
    → to_be_bytes w16 (header_field octets p) ≡ slice_range octets p (p + 2)
pair octets p h small =
    be_bytes_2 (slice_range octets p (p + 2)) (header_field octets p) (grind (arith, common_steps))
    (λ i. grind (arith, common_steps, small (p + i))) refl

flags_few : (octets : List ℕ) → 4 ≤ length octets → ((i : ℕ) → slice_index octets i < 256) → header_field octets 2 < 2 ^ 16
flags_few octets h small = grind (arith, common_steps, small 2, small 3)

counted : (octets : List ℕ) → length octets ≡ 12 → drop 4 octets
    ≡ slice_range octets 4 6 ++ (slice_range octets 6 8 ++ (slice_range octets 8 10 ++ slice_range octets 10 12))
counted octets h = grind (arith, common_steps)

same_six : (a b c d e f a' b' c' d' e' f' : List ℕ) → a ≡ a' → b ≡ b' → c ≡ c' → d ≡ d' → e ≡ e' → f ≡ f'
    → a ++ (b ++ (c ++ (d ++ (e ++ f)))) ≡ a' ++ (b' ++ (c' ++ (d' ++ (e' ++ f'))))
same_six a b c d e f a' b' c' d' e' f' ha hb hc hd he hf = rw (ha, hb, hc, hd, he, hf) refl

pub headers_write_back : HeadersWriteBack
headers_write_back octets h small =
    let numbers = pair octets in
    let flags = flags_back (header_field octets 0) (header_field octets 2) (flags_few octets (omega (arith, h)) small) in
    let written = header_field octets 2 - flag (is_set (header_field octets 2) 6) 6 in
    same_six _ _ _ _ _ _ _ _ _ _ _ _ (numbers 0 (omega (arith, h)) small) (ap (to_be_bytes w16) flags) (numbers 4 (omega (arith, h)) small)
    (numbers 6 (omega (arith, h)) small) (numbers 8 (omega (arith, h)) small) (numbers 10 (omega (arith, h)) small)
    ∙ ap (λ rest. slice_range octets 0 2 ++ (to_be_bytes w16 written ++ rest)) (sym (counted octets h))
