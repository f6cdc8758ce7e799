-- Octets with length octets before them, one after another.
use Rattle.std.proofs.Common.{◌≡◌, ℕ, ◌<◌, List, [], ◌∷◌, ◌++◌, length, drop, refl, sym, ap, ◌∙◌, arith, append_assoc, append-nil, length-append}
use Rattle.std.specs.Prelude.{flat_map}
use Rattle.std.proofs.lemmas.List.{drop_at}
use Rattle.std.proofs.lemmas.List.Concat.{flat_map-append}
use Rattle.dnw_base.specs.Names.{label_wire}

-- after as many octets
cancel : (a b xs ys : List ℕ) → length a ≡ length b → a ++ xs ≡ b ++ ys → xs ≡ ys
cancel a b xs ys size e = sym (drop_at a xs (length a) refl) ∙ ap (drop (length a)) e ∙ drop_at b ys (length a) (sym size)

head : (x y : ℕ) (xs ys : List ℕ) → x ∷ xs ≡ y ∷ ys → x ≡ y
head x y xs ys e = cc

tail : (x y : ℕ) (xs ys : List ℕ) → x ∷ xs ≡ y ∷ ys → xs ≡ ys
tail x y xs ys e = cc

-- what is left after some of the strings are strings
left_are : (done strings : List (List ℕ)) (left : List ℕ) → flat_map label_wire done ++ left ≡ flat_map label_wire strings
    → (others : List (List ℕ)) × (left ≡ flat_map label_wire others)
left_are [] strings left e = (strings, e)
left_are (d ∷ done) [] left e = absurd cc
left_are (d ∷ done) (s ∷ strings) left e =
    let whole : length d ∷ (d ++ (flat_map label_wire done ++ left)) ≡ length s ∷ (s ++ flat_map label_wire strings) =
    ap (λ (xs : List ℕ). length d ∷ xs) (sym (append_assoc d (flat_map label_wire done) left)) ∙ e in
    left_are done strings left (cancel d s (flat_map label_wire done ++ left) (flat_map label_wire strings) (head _ _ _ _ whole) (tail _ _ _ _ whole))

-- octets that end within a string are none
short : (strings : List (List ℕ)) (len : ℕ) (rest : List ℕ) → length rest < len → len ∷ rest ≡ flat_map label_wire strings → ⊥
short [] len rest few e = absurd cc
short (s ∷ strings) len rest few e =
    let size = head _ _ _ _ e in
    let own = ap length (tail _ _ _ _ e) in
    omega (arith, few, size, own, length-append s (flat_map label_wire strings))

pub cut_short : (done strings : List (List ℕ)) (own rest : List ℕ) (len : ℕ) → own ≡ flat_map label_wire done ++ len ∷ rest → length rest < len
    → own ≡ flat_map label_wire strings → ⊥
cut_short done strings own rest len so_far few e =
    let (others, left) = left_are done strings (len ∷ rest) (sym so_far ∙ e) in short others len rest few left

-- one string more
pub one_more : {X : Type 0} (f : X → List ℕ) (xs : List X) (x : X) (rest : List ℕ) → flat_map f (xs ++ x ∷ []) ++ rest ≡ flat_map f xs ++ (f x ++ rest)
one_more f xs x rest =
    ap (λ (ys : List ℕ). ys ++ rest) (flat_map-append f xs (x ∷ []) ∙ ap (λ (ys : List ℕ). flat_map f xs ++ ys) (append-nil (f x)))
    ∙ append_assoc (flat_map f xs) (f x) rest

-- the octets after a string that was taken
pub taken : (done : List (List ℕ)) (own left rest string after : List ℕ) (len : ℕ) → own ≡ flat_map label_wire done ++ left → left ≡ len ∷ rest
    → rest ≡ string ++ after → length string ≡ len → own ≡ flat_map label_wire (done ++ string ∷ []) ++ after
taken done own left rest string after len so_far first whole size =
    so_far ∙ ap (λ (xs : List ℕ). flat_map label_wire done ++ xs) (first ∙ rw (whole, size) refl) ∙ sym (one_more label_wire done string after)

pub last : {X : Type 0} (f : X → List ℕ) (xs : List X) (x : X) → flat_map f (xs ++ x ∷ []) ≡ flat_map f xs ++ f x
last f xs x = flat_map-append f xs (x ∷ []) ∙ ap (λ (ys : List ℕ). flat_map f xs ++ ys) (append-nil (f x))
