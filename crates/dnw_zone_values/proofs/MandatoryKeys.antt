-- The keys of parameters on the wire, and those that are listed.
use Rattle.std.proofs.Common.{◌≡◌, ◌<◌, ℕ, zero, suc, ◌==◌, true, false, List, [], ◌∷◌, length, take, drop, refl, ap, ◌∙◌, sym, arith}
use Rattle.std.specs.Int.{w16, from_be_bytes}
use Rattle.dnw_zone_values.specs.Mandatory.{listed_keys, keys_after, are_among, is_list_of_keys, keeps_mandatory}

-- a value is passed over
pub keys_past : (n : ℕ) (octets : List ℕ) → keys_after n octets ≡ keys_after 0 (drop n octets)
keys_past zero octets = refl
keys_past (suc n) [] = refl
keys_past (suc n) (o ∷ octets) = keys_past n octets

-- the key of the first parameter
pub keys_first : (octets r1 r2 rest : List ℕ) (key len n a b c d : ℕ) → octets ≡ a ∷ b ∷ r1 → key ≡ from_be_bytes w16 (a ∷ b ∷ []) → r1 ≡ c ∷ d ∷ r2
    → len ≡ from_be_bytes w16 (c ∷ d ∷ []) → n ≡ len → rest ≡ drop n r2 → keys_after 0 octets ≡ key ∷ keys_after 0 rest
keys_first octets r1 r2 rest key len n a b c d first k second l same e =
    ap (keys_after 0) (first ∙ ap (λ (xs : List ℕ). a ∷ b ∷ xs) second)
    ∙ ap (λ (m : ℕ). from_be_bytes w16 (a ∷ b ∷ []) ∷ keys_after m r2) (sym (same ∙ l))
    ∙ ap (λ (i : ℕ). i ∷ keys_after n r2) (sym k)
    ∙ ap (λ (ks : List ℕ). key ∷ ks) (keys_past n r2 ∙ ap (keys_after 0) (sym e))

-- no parameter is there
pub no_keys : (octets : List ℕ) → length octets < 2 → keys_after 0 octets ≡ []
no_keys [] few = refl
no_keys (a ∷ []) few = refl
no_keys (a ∷ b ∷ octets) few = absurd (omega (arith, few))

pub no_len : (octets r1 : List ℕ) (a b : ℕ) → octets ≡ a ∷ b ∷ r1 → length r1 < 2 → keys_after 0 octets ≡ []
no_len octets [] a b e few = ap (keys_after 0) e
no_len octets (c ∷ []) a b e few = ap (keys_after 0) e
no_len octets (c ∷ d ∷ r2) a b e few = absurd (omega (arith, few))

pub none_listed : (octets : List ℕ) → length octets < 2 → listed_keys octets ≡ []
none_listed [] few = refl
none_listed (a ∷ []) few = refl
none_listed (a ∷ b ∷ octets) few = absurd (omega (arith, few))

pub among_none : (octets keys : List ℕ) → length octets < 2 → are_among (listed_keys octets) keys ≡ true
among_none octets keys few = ap (λ (ms : List ℕ). are_among ms keys) (none_listed octets few)

pub some_listed : (octets rest : List ℕ) (a b : ℕ) → octets ≡ a ∷ b ∷ rest → are_among (listed_keys octets) [] ≡ false
some_listed octets rest a b e = ap (λ (xs : List ℕ). are_among (listed_keys xs) []) e

-- a list of keys is that of a record if its keys are there
pub keeps_listed : (octets r1 r2 own rest : List ℕ) (key len n a b c d : ℕ) → octets ≡ a ∷ b ∷ r1 → key ≡ from_be_bytes w16 (a ∷ b ∷ []) → r1 ≡ c ∷ d ∷ r2
    → len ≡ from_be_bytes w16 (c ∷ d ∷ []) → n ≡ len → own ≡ take n r2 → rest ≡ drop n r2 → key ≡ 0 → is_list_of_keys own ≡ true
    → keeps_mandatory octets ≡ are_among (listed_keys own) (keys_after 0 rest)
keeps_listed octets r1 r2 own rest key len n a b c d first k second l same own_is rest_is none listed =
    let m = from_be_bytes w16 (c ∷ d ∷ []) in
    let whole : keeps_mandatory octets ≡ keeps_mandatory (a ∷ b ∷ c ∷ d ∷ r2) = ap keeps_mandatory (first ∙ ap (λ (xs : List ℕ). a ∷ b ∷ xs) second) in
    let is : (from_be_bytes w16 (a ∷ b ∷ []) == 0) ≡ true = ap (λ (i : ℕ). i == 0) (sym k ∙ none) in
    let size : n ≡ m = same ∙ l in
    let mine : own ≡ take m r2 = own_is ∙ ap (λ (i : ℕ). take i r2) size in
    let keys : is_list_of_keys (take m r2) ≡ true = ap is_list_of_keys (sym mine) ∙ listed in
    whole ∙ rw (is, keys)
    (ap (λ (xs : List ℕ). are_among (listed_keys xs) (keys_after m r2)) (sym mine)
    ∙ ap (are_among (listed_keys own)) (keys_past m r2 ∙ ap (keys_after 0) (ap (λ (i : ℕ). drop i r2) (sym size) ∙ sym rest_is)))
