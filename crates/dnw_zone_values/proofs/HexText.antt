-- Hexadecimal, octet by octet.
use Rattle.std.proofs.Common.{Bool, false, ◌≡◌, ◌≢◌, inl, inr, codes, ◌<◌, ◌≤◌, ◌+◌, ◌-◌, ◌/◌, ◌%◌, ℕ, false, List, [], ◌∷◌, ◌++◌, length, take, drop, slice_index, Result, Ok, Err, refl, ap, ◌∙◌, arith, append-nil, length-append, length-drop}
use borrow.Rule.Slice.PartMut.{post_of}
use Rattle.std.proofs.lemmas.List.{take_more, take_at, drop_all, length-take-le}
use Rattle.hex.proofs.HexLemmas.{decode_of-ok}
use Rattle.std.specs.Str.{bytes_eq}
use Rattle.std.proofs.lemmas.Bool.{both_ways}
use Rattle.std.proofs.lemmas.Slice.Eq.{bytes_eq-Decides}
use Rattle.hex.specs.Hex.{encode_with, upper_digits}
use Rattle.dnw_zone_values.specs.Octets.{hex_text, IsHexText, IsSaltText}
use Rattle.dnw_zone_values.specs.Spelling.{Appends}
use Rattle.dnw_zone_values.specs.declared.error.FieldTextError.{FieldTextError}
use Rattle.dnw_zone_values.specs.declared.error.FieldTextError.TheVariants.{Salt}

pub encode_with_append : (t xs : List ℕ) (b : ℕ) → encode_with t (xs ++ b ∷ []) ≡ encode_with t xs ++ slice_index t (b / 16) ∷ slice_index t (b % 16) ∷ []
unfolding encode_with
encode_with_append t [] b = refl
encode_with_append t (x ∷ xs) b = ap (λ (rest : List ℕ). slice_index t (x / 16) ∷ slice_index t (x % 16) ∷ rest) (encode_with_append t xs b)

-- with one more octet, two more digits
pub hex_text_more : (octets : List ℕ) (i : ℕ) → i < length octets
    → hex_text (take (i + 1) octets) ≡ hex_text (take i octets) ++ slice_index upper_digits (slice_index octets i / 16) ∷ slice_index upper_digits (slice_index octets i % 16) ∷ []
hex_text_more octets i within = ap hex_text (take_more octets i 0 within) ∙ encode_with_append upper_digits (take i octets) (slice_index octets i)

pub hex_text_nil : hex_text [] ≡ []
unfolding encode_with
hex_text_nil = refl

-- what is in a vector whose end, from a place on, was written through a slice
pub tail_written : (a new r : List ℕ) (l k : ℕ) → l ≤ length a → length new + l ≡ length a → k ≡ length a
    → take k ((take l a ++ (new ++ post_of l (length a - l) a)) ++ drop (length (take l a ++ (new ++ post_of l (length a - l) a))) r) ≡ take l a ++ new
tail_written a new r l k fits len size =
    let post : post_of l (length a - l) a ≡ [] = drop_all (length a - l) (drop l a) (omega (arith, length-drop l a)) in
    let whole : length (take l a ++ new) ≡ k = omega (arith, length-append (take l a) new, length-take-le l a fits) in
    rw (post, append-nil) (take_at (take l a ++ new) (drop (length (take l a ++ new)) r) k whole)

-- A text that is not `-` is a salt if it is 1 to 255 octets in hexadecimal.
pub salt_from_hex : (text old new : List ℕ) (r : Result Unit FieldTextError) → text ≢ codes "-" → 1 ≤ length text → length text ≤ 510
    → Appends Salt IsHexText text old new r → Appends Salt IsSaltText text old new r
salt_from_hex text old new (Ok done) other some few appends =
    let size = (decode_of-ok text appends.0 appends.1).2 in
    (appends.0, inr (appends.1, omega (arith, size), omega (arith, size)), appends.2)
salt_from_hex text old new (Err e) other some few appends = (
  elim appends.0 [
    | inl fails ↦ inl (
      fails.0,
      λ octets own. elim own [
        | inl none ↦ other none.0
        | inr digits ↦ fails.1 octets digits.0
      ],
    )
    | inr ran_out ↦ inr ran_out
  ],
  appends.1,
)

-- No other text is one.
pub no_salt : (text octets : List ℕ) → text ≢ codes "-" → ¬ ((1 ≤ length text) × (length text ≤ 510)) → ¬ (IsSaltText text octets)
no_salt text octets other size own = elim own [
  | inl none ↦ other none.0
  | inr digits ↦ let long = (decode_of-ok text octets digits.0).2 in size (omega (arith, long, digits), omega (arith, long, digits))
]

-- a comparison that failed
pub other_text : (r : Bool) (text other : List ℕ) → r ≡ bytes_eq text other → r ≡ false → text ≢ other
other_text r text other test fails same = both_ways r fails (test ∙ (bytes_eq-Decides text other).1 same)
