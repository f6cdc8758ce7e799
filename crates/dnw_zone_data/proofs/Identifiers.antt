-- The octets of identifiers, and their numbers.
use Rattle.std.proofs.Common.{◌≡◌, ℕ, zero, suc, ◌+◌, ◌*◌, ◌<◌, ◌==◌, ◌&&◌, true, List, [], ◌∷◌, length, drop, refl, ap, subst, arith, inl, inr}
use Rattle.std.specs.Prelude.{Option, Some, None}
use Rattle.std.specs.Char.{is_ascii_hexdigit}
use Rattle.std.specs.Int.{w64, from_be_bytes}
use Rattle.std.proofs.lemmas.Bool.{cases_Bool, and_parts}
use Rattle.std.proofs.lemmas.Nat.{be_bytes_8}
use Rattle.dnw_zone_values.specs.Octets.{IsOctets}
use Rattle.dnw_zone_values.specs.Pairs.{hyphen, digit_of, pair_octet, with_front, pairs_octets, IsPairsText}
use Rattle.dnw_zone_data.specs.Parsing.{eui48, eui64}
use Rattle.dnw_data.specs.FieldWires.{field_wire}

octets_nil : IsOctets []
octets_nil = λ i. omega arith

at : (o : ℕ) (own : List ℕ) → o < 256 → IsOctets own → IsOctets (o ∷ own)
at o own h k zero = h
at o own h k (suc i) = k i

digit_fits : (c : ℕ) → is_ascii_hexdigit c ≡ true → digit_of c < 16
digit_fits c h = grind arith

pair_fits : (a b o : ℕ) → pair_octet a b ≡ Some o → o < 256
pair_fits a b o e = elim (cases_Bool (is_ascii_hexdigit a && is_ascii_hexdigit b)) [
  | inl both ↦
      let parts = and_parts (is_ascii_hexdigit a) (is_ascii_hexdigit b) both in
      let value = rw both at e in
      let same : 16 * digit_of a + digit_of b ≡ o = cc in
      omega (arith, same, digit_fits a parts.0, digit_fits b parts.1)
  | inr other ↦ let no = rw other at e in absurd cc
]

before_fits : (x : Option ℕ) (y : Option (List ℕ)) (own : List ℕ) → ((o : ℕ) → x ≡ Some o → o < 256) → ((ys : List ℕ) → y ≡ Some ys → IsOctets ys)
    → with_front x y ≡ Some own → IsOctets own
before_fits None y own f g e = absurd cc
before_fits (Some o) None own f g e = absurd cc
before_fits (Some o) (Some ys) own f g e = let same : o ∷ ys ≡ own = cc in subst IsOctets same (at o ys (f o refl) (g ys refl))

none_fit : (ys own : List ℕ) → Some ys ≡ Some own → ys ≡ [] → IsOctets own
none_fit ys own e none = let same : [] ≡ own = cc in subst IsOctets same octets_nil

pairs_fit : (text own : List ℕ) → pairs_octets text ≡ Some own → IsOctets own
pairs_fit [] own e = absurd cc
pairs_fit (a ∷ []) own e = absurd cc
pairs_fit (a ∷ b ∷ []) own e = before_fits (pair_octet a b) (Some []) own (pair_fits a b) (λ ys same. none_fit [] ys same refl) e
pairs_fit (a ∷ b ∷ c ∷ text) own e = elim (cases_Bool (c == hyphen)) [
  | inl is ↦ let more : with_front (pair_octet a b) (pairs_octets text) ≡ Some own = rw is at e in before_fits (pair_octet a b) (pairs_octets text) own (pair_fits a b) (pairs_fit text) more
  | inr other ↦ let no = rw other at e in absurd cc
]

pub wire_48 : (text own : List ℕ) → IsPairsText text own → length own ≡ 6 → field_wire (eui48 own) ≡ own
wire_48 text own is size =
    let fit = pairs_fit text own is in
    ap (drop 2) (be_bytes_8 (0 ∷ 0 ∷ own) (from_be_bytes w64 (0 ∷ 0 ∷ own)) (omega (arith, size)) (at 0 (0 ∷ own) (omega arith) (at 0 own (omega arith) fit)) refl)

pub wire_64 : (text own : List ℕ) → IsPairsText text own → length own ≡ 8 → field_wire (eui64 own) ≡ own
wire_64 text own is size = be_bytes_8 own (from_be_bytes w64 own) size (pairs_fit text own is) refl
