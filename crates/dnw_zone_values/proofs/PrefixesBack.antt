-- What is printed of an address prefix is parsed as it, and a text is one prefix at most.
use Rattle.std.proofs.Common.{◌≡◌, ℕ, zero, suc, ◌+◌, ◌-◌, Bool, true, false, not, ◌==◌, List, [], ◌∷◌, ◌++◌, length, drop, slice_index, decimal, refl, sym, ap, ◌∙◌, subst, arith, append_assoc, inl, inr}
use Rattle.std.specs.Prelude.{replicate, Result, Ok, Err, IfOk}
use Rattle.std.specs.List.{list_all, position_or_len}
use Rattle.std.specs.Net.Addr.{ipv4_octets, ipv6_segments, octets_of}
use Rattle.std.specs.declared.net.Ipv6Addr.{Ipv6Addr}
use Rattle.std.proofs.NetLemmas.Theorems.{IsIpv4Text_unique, IsIpv6Text_unique}
use Rattle.std.proofs.lemmas.Bool.{and_parts}
use Rattle.std.proofs.lemmas.List.{take_at}
use Rattle.dnw_zone_values.specs.Numbers.{max_u16, IsNumberText}
use Rattle.dnw_zone_values.specs.Prefixes.{colon, slash, before, after, after_negation, is_negation, without_zeros, prefix_wire, with_zeros, ends_in_no_zero, prefix_family, negates, negation_text, prefix_address_text, shown_prefix_text, IsAddressText, IsPrefixOf, IsFamilyText, IsPrefixText, PrefixesAreUnambiguous}
use Rattle.dnw_zone_values.specs.Inside.Steps.{PushesOne}

-- ---- a text is one prefix at most

one_address : (family : ℕ) (text a b : List ℕ) → IsAddressText family text a → IsAddressText family text b → a ≡ b
one_address family text a b (inl x) (inl y) = x.4 ∙ ap ipv4_octets (IsIpv4Text_unique text x.1 y.1 x.3 y.3) ∙ sym y.4
one_address family text a b (inr x) (inr y) = x.4 ∙ ap (λ (z : Ipv6Addr). octets_of (ipv6_segments z)) (IsIpv6Text_unique text x.1 y.1 x.3 y.3) ∙ sym y.4
one_address family text a b (inl x) (inr y) = absurd (omega (arith, x.0, y.0))
one_address family text a b (inr x) (inl y) = absurd (omega (arith, x.0, y.0))

same_wire : (family : ℕ) (n : Bool) (a b : ℕ) (x y : List ℕ) → a ≡ b → x ≡ y → prefix_wire family n a (without_zeros x) ≡ prefix_wire family n b (without_zeros y)
same_wire family n a b x y e f = rw (e, f) refl

one_of : (family : ℕ) (n : Bool) (address size a b : List ℕ) → IsPrefixOf family n address size a → IsPrefixOf family n address size b → a ≡ b
one_of family n address size a b x y =
    x.4 ∙ same_wire family n x.0 y.0 x.1 y.1 (sym x.3.1 ∙ y.3.1) (one_address family address x.1 y.1 x.2 y.2) ∙ sym y.4

pub one_prefix : PrefixesAreUnambiguous
one_prefix text a b x y =
    let rest = after colon (after_negation text) in
    let n = is_negation text in
    one_of y.0 n (before slash rest) (after slash rest) a b
    (subst (λ (f : ℕ). IsPrefixOf f n (before slash rest) (after slash rest) a) (sym x.1.1 ∙ y.1.1) x.2) y.2

-- ---- the zeros at the end

-- zeros alone are left out
pub no_zeros : (n : ℕ) → without_zeros (replicate n 0) ≡ []
no_zeros zero = refl
no_zeros (suc n) = rw (no_zeros n) refl

-- an octet that is not zero ends them
last_kept : (o : ℕ) (xs : List ℕ) → ends_in_no_zero (o ∷ xs) ≡ true → (without_zeros xs ≡ xs) → without_zeros (o ∷ xs) ≡ o ∷ xs
last_kept o [] h e = let no : (o == 0) ≡ false = grind (arith, h) in rw no refl
last_kept o (x ∷ xs) h e = rw e (grind arith)

ends_on : (o x : ℕ) (xs : List ℕ) → ends_in_no_zero (o ∷ x ∷ xs) ≡ true → ends_in_no_zero (x ∷ xs) ≡ true
ends_on o x xs h = h

pub kept : (xs : List ℕ) → ends_in_no_zero xs ≡ true → without_zeros xs ≡ xs
kept [] h = refl
kept (o ∷ []) h = last_kept o [] h refl
kept (o ∷ x ∷ xs) h = last_kept o (x ∷ xs) h (kept (x ∷ xs) (ends_on o x xs h))

-- zeros after octets change nothing
pub zeros_after : (xs : List ℕ) (n : ℕ) → without_zeros (xs ++ replicate n 0) ≡ without_zeros xs
zeros_after [] n = no_zeros n
zeros_after (o ∷ xs) n = rw (zeros_after xs n) refl

pub padded_back : (size : ℕ) (xs : List ℕ) → ends_in_no_zero xs ≡ true → without_zeros (with_zeros size xs) ≡ xs
padded_back size xs h = zeros_after xs (size - length xs) ∙ kept xs h

-- ---- parts of a text

abbrev pub is_other : ℕ → ℕ → Bool
is_other c x = not (x == c)

position_after : (c : ℕ) (xs ys : List ℕ) → list_all (is_other c) xs ≡ true → position_or_len (λ (x : ℕ). x == c) (xs ++ c ∷ ys) ≡ length xs
position_after c [] ys h = let same : (c == c) ≡ true = grind arith in rw same refl
position_after c (x ∷ xs) ys h =
    let parts = and_parts (is_other c x) (list_all (is_other c) xs) h in
    rw parts.0 (let so_far = position_after c xs ys parts.1 in omega (arith, so_far))

pub before_at : (c : ℕ) (xs ys : List ℕ) → list_all (is_other c) xs ≡ true → before c (xs ++ c ∷ ys) ≡ xs
before_at c xs ys h = take_at xs (c ∷ ys) _ (sym (position_after c xs ys h))

drop_after : (c : ℕ) (xs ys : List ℕ) (n : ℕ) → n ≡ length xs → drop (suc n) (xs ++ c ∷ ys) ≡ ys
drop_after c [] ys n e = rw e refl
drop_after c (x ∷ xs) ys n e = rw e (drop_after c xs ys (length xs) refl)

pub after_at : (c : ℕ) (xs ys : List ℕ) → list_all (is_other c) xs ≡ true → after c (xs ++ c ∷ ys) ≡ ys
after_at c xs ys h =
    let n = position_or_len (λ (x : ℕ). x == c) (xs ++ c ∷ ys) in
    let next : n + 1 ≡ suc n = omega arith in
    ap (λ (k : ℕ). drop k (xs ++ c ∷ ys)) next ∙ drop_after c xs ys n (position_after c xs ys h)

-- a loop over the last octets
pub zero_last : (xs rest : List ℕ) (o : ℕ) → xs ≡ rest ++ o ∷ [] → o ≡ 0 → without_zeros rest ≡ without_zeros xs
zero_last xs rest o e z = rw (e, z) (sym (zeros_after rest 1))

last_well : (rest : List ℕ) (o : ℕ) → (o ≡ 0 → ⊥) → ends_in_no_zero (rest ++ o ∷ []) ≡ true
last_well [] o h = grind arith
last_well (x ∷ []) o h = grind arith
last_well (x ∷ y ∷ rest) o h = last_well (y ∷ rest) o h

pub some_last : (xs rest : List ℕ) (o : ℕ) → xs ≡ rest ++ o ∷ [] → (o ≡ 0 → ⊥) → without_zeros xs ≡ xs
some_last xs rest o e h = rw e (kept (rest ++ o ∷ []) (last_well rest o h))

-- ---- what calls do

pub if_ok : {E : Type 0} (r : Result Bool E) (P Q : Bool → Type 0) → ((b : Bool) → P b → Q b) → IfOk r P → IfOk r Q
if_ok (Ok b) P Q f h = f b h
if_ok (Err e) P Q f h = h

family_pushed : (n : Bool) (text old new : List ℕ) (family : ℕ) (done : Bool) → IsNumberText max_u16 (before colon text) family
    → PushesOne (IsPrefixOf family n (before slash (after colon text)) (after slash (after colon text))) old new done → PushesOne (IsFamilyText n text) old new done
family_pushed n text old new family true number h = (h.0, (family, number, h.1), h.2)
family_pushed n text old new family false number h = λ own is.
    let rest = after colon text in
    h own (subst (λ (f : ℕ). IsPrefixOf f n (before slash rest) (after slash rest) own) (sym is.1.1 ∙ number.1) is.2)

pub family_call : {E : Type 0} (r : Result Bool E) (n : Bool) (text rest number address size old new : List ℕ) (family : ℕ) → number ≡ before colon text → rest ≡ after colon text
    → address ≡ before slash rest → size ≡ after slash rest → IsNumberText max_u16 number family → IfOk r (PushesOne (IsPrefixOf family n address size) old new)
    → IfOk r (PushesOne (IsFamilyText n text) old new)
family_call r n text rest number address size old new family a b c d is h =
    let number_is : IsNumberText max_u16 (before colon text) family = subst (λ (t : List ℕ). IsNumberText max_u16 t family) a is in
    let rest_is : IfOk r (PushesOne (IsPrefixOf family n (before slash rest) (after slash rest)) old new) = rw (c, d) at h in
    let all_is = rw b at rest_is in
    if_ok r _ _ (λ done. family_pushed n text old new family done number_is) all_is

pub no_family_text : (n : Bool) (text number own : List ℕ) → number ≡ before colon text → ((f : ℕ) → ¬ (IsNumberText max_u16 number f)) → ¬ (IsFamilyText n text own)
no_family_text n text number own e none is = none is.0 (subst (λ (t : List ℕ). IsNumberText max_u16 t is.0) (sym e) is.1)

pub marked_call : {E : Type 0} (r : Result Bool E) (n : Bool) (text rest old new : List ℕ) → n ≡ is_negation text → rest ≡ after_negation text
    → IfOk r (PushesOne (IsFamilyText n rest) old new) → IfOk r (PushesOne (IsPrefixText text) old new)
marked_call r n text rest old new e f h = rw (e, f) at h

pub no_family : (family : ℕ) (n : Bool) (address size own : List ℕ) → (family ≡ 1 → ⊥) → (family ≡ 2 → ⊥) → ¬ (IsPrefixOf family n address size own)
no_family family n address size own a b is = elim is.2 [
  | inl x ↦ a x.0
  | inr x ↦ b x.0
]

three_exact : (own old s1 s2 s3 : List ℕ) → s1 ≡ old ++ negation_text (negates own) → s2 ≡ s1 ++ prefix_address_text (prefix_family own) (drop 4 own)
    → s3 ≡ s2 ++ slash ∷ decimal (slice_index own 2) → s3 ≡ old ++ shown_prefix_text own
three_exact own old s1 s2 s3 d e g =
    g ∙ ap (λ (t : List ℕ). t ++ slash ∷ decimal (slice_index own 2)) (e ∙ ap (λ (t : List ℕ). t ++ prefix_address_text (prefix_family own) (drop 4 own)) d)
    ∙ append_assoc (old ++ negation_text (negates own)) (prefix_address_text (prefix_family own) (drop 4 own)) (slash ∷ decimal (slice_index own 2))
    ∙ append_assoc old (negation_text (negates own)) (prefix_address_text (prefix_family own) (drop 4 own) ++ slash ∷ decimal (slice_index own 2))

pub three_parts : (own old s1 s2 s3 xs : List ℕ) (n : Bool) (f : ℕ) → n ≡ negates own → f ≡ prefix_family own → xs ≡ drop 4 own → s1 ≡ old ++ negation_text n
    → s2 ≡ s1 ++ prefix_address_text f xs → s3 ≡ s2 ++ slash ∷ decimal (slice_index own 2) → s3 ≡ old ++ shown_prefix_text own
three_parts own old s1 s2 s3 xs n f a b c d e g =
    three_exact own old s1 s2 s3 (d ∙ ap (λ (m : Bool). old ++ negation_text m) a)
    (e ∙ ap (λ (k : ℕ). s1 ++ prefix_address_text k xs) b ∙ ap (λ (ys : List ℕ). s1 ++ prefix_address_text (prefix_family own) ys) c) g
