-- The octets that fields were read from.
use Rattle.std.proofs.Common.{◌≡◌, ℕ, zero, suc, ◌<◌, ◌≤◌, List, [], ◌∷◌, ◌++◌, length, drop, take, get_or, refl, sym, ap, ◌∙◌, arith, length-drop}
use Rattle.std.proofs.Math.Seq.{take-length}
use Rattle.std.specs.Prelude.{slice_index, slice_range}
use Rattle.std.specs.Int.{w16, to_be_bytes, from_be_bytes}
use Rattle.std.proofs.lemmas.Nat.{be_bytes_2}

abbrev AreBytes : List ℕ → Type 0
AreBytes octets = (i : ℕ) → get_or octets i 0 < 256

-- the octets after the first few
rest_is : (size : ℕ) (octets : List ℕ) → slice_range octets size (length octets) ≡ drop size octets
rest_is size octets = ap (λ n. take n (drop size octets)) (sym (length-drop size octets)) ∙ take-length (drop size octets)

two_bytes : (a b : ℕ) (others : List ℕ) → AreBytes (a ∷ b ∷ others) → AreBytes (a ∷ b ∷ [])
two_bytes a b others bytes zero = bytes 0
two_bytes a b others bytes (suc zero) = bytes 1
two_bytes a b others bytes (suc (suc i)) = omega arith

-- a number of two octets, and what is after it
number_back : (octets : List ℕ) → 2 ≤ length octets → AreBytes octets → to_be_bytes w16 (from_be_bytes w16 (slice_range octets 0 2)) ++ drop 2 octets ≡ octets
number_back [] long bytes = absurd (omega (arith, long))
number_back (a ∷ []) long bytes = absurd (omega (arith, long))
number_back (a ∷ b ∷ others) long bytes =
    ap (λ l. l ++ others) (be_bytes_2 (a ∷ b ∷ []) (from_be_bytes w16 (a ∷ b ∷ [])) refl (two_bytes a b others bytes) refl)

pub two_back : (octets text : List ℕ) (n : ℕ) → 2 ≤ length octets → AreBytes octets → n ≡ from_be_bytes w16 (slice_range octets 0 2)
    → text ≡ slice_range octets 2 (length octets) → to_be_bytes w16 n ++ text ≡ octets
two_back octets text n long bytes n_is text_is =
    ap (λ m. to_be_bytes w16 m ++ text) n_is ∙ (ap (λ l. to_be_bytes w16 (from_be_bytes w16 (slice_range octets 0 2)) ++ l) (text_is ∙ rest_is 2 octets) ∙ number_back octets long bytes)

four_split : (octets : List ℕ) → 4 ≤ length octets → slice_index octets 2 ∷ slice_index octets 3 ∷ drop 4 octets ≡ drop 2 octets
four_split [] long = absurd (omega (arith, long))
four_split (a ∷ []) long = absurd (omega (arith, long))
four_split (a ∷ b ∷ []) long = absurd (omega (arith, long))
four_split (a ∷ b ∷ c ∷ []) long = absurd (omega (arith, long))
four_split (a ∷ b ∷ c ∷ d ∷ others) long = refl

pub network_back : (octets : List ℕ) (n : ℕ) → 4 ≤ length octets → AreBytes octets → n ≡ from_be_bytes w16 (slice_range octets 0 2)
    → to_be_bytes w16 n ++ slice_index octets 2 ∷ slice_index octets 3 ∷ slice_range octets 4 (length octets) ≡ octets
network_back octets n long bytes n_is =
    ap (λ m. to_be_bytes w16 m ++ slice_index octets 2 ∷ slice_index octets 3 ∷ slice_range octets 4 (length octets)) n_is
    ∙ (ap (λ l. to_be_bytes w16 (from_be_bytes w16 (slice_range octets 0 2)) ++ slice_index octets 2 ∷ slice_index octets 3 ∷ l) (rest_is 4 octets)
    ∙ (ap (λ l. to_be_bytes w16 (from_be_bytes w16 (slice_range octets 0 2)) ++ l) (four_split octets long) ∙ number_back octets (omega (arith, long)) bytes))

pub pair_back : (octets : List ℕ) → 2 ≤ length octets → slice_index octets 0 ∷ slice_index octets 1 ∷ drop 2 octets ≡ octets
pair_back [] long = absurd (omega (arith, long))
pair_back (a ∷ []) long = absurd (omega (arith, long))
pair_back (a ∷ b ∷ others) long = refl
