-- The lengths of the last labels.
use Rattle.std.proofs.Common.{◌≡◌, ℕ, zero, suc, ◌+◌, ◌*◌, ◌/◌, ◌%◌, ◌^◌, ◌<◌, List, [], ◌∷◌, ◌++◌, inl, inr, length, take, drop, reverse, refl, sym, ap, ◌∙◌, subst, append_assoc, arith}
use Rattle.std.proofs.Math.Nat.{one-le-pow, pow-suc, zero-mod}
use Rattle.std.proofs.Math.Arith.{mod-mul}
use Rattle.std.proofs.lemmas.Nat.{div-mul-add, mod-mul-add}
use Rattle.std.proofs.lemmas.List.{append-nil, length-take-le, reverse-append}
use Rattle.dnw_name_form.specs.Inside.Lengths.{HasLengths}
use Rattle.dnw_name_form.specs.Inside.WireBytes.{closed, labels_of, IsWire}
use Rattle.dnw_name_form.proofs.OpenWires.{closed_none}
use Rattle.dnw_name_form.proofs.Wires.{Front}

pub none_known : (ls : List (List ℕ)) → HasLengths ls 0
none_known [] = refl
none_known (l ∷ ls) = inl refl

-- fewer of the lengths
fewer : (n : ℕ) (ls : List (List ℕ)) (lengths : ℕ) → HasLengths ls lengths → HasLengths ls (lengths % 256 ^ n)
fewer zero ls lengths h = subst (HasLengths ls) (omega arith) (none_known ls)
fewer (suc n) [] lengths h = rw h (zero-mod (256 ^ suc n))
fewer (suc n) (l ∷ ls) lengths (inl none) = inl (rw none (zero-mod (256 ^ suc n)))
fewer (suc n) (l ∷ ls) lengths (inr (low, others)) =
    let parts : lengths % 256 ^ suc n ≡ (lengths / 256 % 256 ^ n) * 256 + lengths % 256 = rw (pow-suc 256 n) (mod-mul lengths (one-le-pow n 256 (omega arith)) (omega arith)) in
    let small : lengths % 256 < 256 = omega arith in
    inr (
      ap (λ (x : ℕ). x % 256) parts ∙ mod-mul-add (lengths / 256 % 256 ^ n) 256 (lengths % 256) small ∙ low,
      subst (HasLengths ls) (sym (ap (λ (x : ℕ). x / 256) parts ∙ div-mul-add (lengths / 256 % 256 ^ n) 256 (lengths % 256) small)) (fewer n ls (lengths / 256) others),
    )

-- the length of one more label
pub one_more : (l : List ℕ) (ls : List (List ℕ)) (lengths : ℕ) → length l < 256 → HasLengths ls lengths
    → HasLengths (l ∷ ls) (lengths % 72057594037927936 * 256 + length l)
one_more l ls lengths small h = inr (
  mod-mul-add (lengths % 72057594037927936) 256 (length l) small,
  subst (HasLengths ls) (sym (div-mul-add (lengths % 72057594037927936) 256 (length l) small)) (fewer 7 ls lengths h),
)

-- The lengths of the labels before the rest are known.
pub record Passed (labels rest : List ℕ) (lengths : ℕ) : Type 0 where
  pub wire : IsWire (closed rest)
  pub front : List (List ℕ)
  pub whole : labels_of (closed labels) ≡ front ++ labels_of (closed rest)
  pub known : HasLengths (reverse front) lengths

pub Passed_start : (labels : List ℕ) → IsWire (closed labels) → Passed labels labels 0
Passed_start labels w = record { wire = w; front = []; whole = refl; known = refl }

-- the length octet of the next label, and the label
pub Passed_next : (labels rest : List ℕ) (lengths c : ℕ) (others : List ℕ) → Passed labels rest lengths → Front closed (labels_of (closed rest)) c others
    → Passed labels (drop c others) (lengths % 72057594037927936 * 256 + c)
Passed_next labels rest lengths c others seen first =
    let label = take c others in
    let len : length label ≡ c = length-take-le c others first.fits in
    let known = subst (λ (n : ℕ). HasLengths (label ∷ reverse seen.front) (lengths % 72057594037927936 * 256 + n)) len
    (one_more label (reverse seen.front) lengths (omega (arith, first.is_label.not_long)) seen.known) in
    record {
      wire = first.others;
      front = seen.front ++ label ∷ [];
      whole = seen.whole ∙ ap (λ (more : List (List ℕ)). seen.front ++ more) first.labels ∙ sym (append_assoc seen.front (label ∷ []) _);
      known = subst (λ (ls : List (List ℕ)). HasLengths ls (lengths % 72057594037927936 * 256 + c)) (sym (reverse-append seen.front (label ∷ []))) known;
    }

pub Passed_all : (labels rest : List ℕ) (lengths : ℕ) → Passed labels rest lengths → length rest ≡ 0 → HasLengths (reverse (labels_of (closed labels))) lengths
Passed_all labels rest lengths seen end =
    let whole : labels_of (closed labels) ≡ seen.front = seen.whole ∙ ap (λ (more : List (List ℕ)). seen.front ++ more) (closed_none rest end) ∙ append-nil seen.front in
    subst (λ (ls : List (List ℕ)). HasLengths (reverse ls) lengths) (sym whole) seen.known
