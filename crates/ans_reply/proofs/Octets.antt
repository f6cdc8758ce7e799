-- Octets that are appended one after another.
use Rattle.std.proofs.Common.{◌≡◌, ℕ, List, [], ◌∷◌, ◌++◌, refl, append_assoc}

pub item_joined : (old : List ℕ) (o : ℕ) (n f d : List ℕ) → (((old ++ o ∷ []) ++ n) ++ f) ++ d ≡ old ++ o ∷ (n ++ (f ++ d))
item_joined old o n f d = simp append_assoc refl

pub three_joined : (old a b c : List ℕ) → ((old ++ a) ++ b) ++ c ≡ old ++ (a ++ (b ++ c))
three_joined old a b c = simp append_assoc refl

pub ends_joined : (old q s o : List ℕ) → (old ++ (q ++ s)) ++ o ≡ old ++ (q ++ (s ++ o))
ends_joined old q s o = simp append_assoc refl

pub two_joined : (old q s : List ℕ) → (old ++ q) ++ s ≡ old ++ (q ++ s)
two_joined old q s = append_assoc old q s
