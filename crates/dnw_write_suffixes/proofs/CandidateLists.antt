-- Lists of candidates.
use Rattle.std.proofs.Common.{◌≡◌, ◌≢◌, ℕ, ◌+◌, ◌<◌, ◌≤◌, suc, Bool, true, List, [], ◌∷◌, ◌++◌, length, filter, get_or, take, drop, refl, sym, ap, ◌∙◌, subst, ⊎_elim, arith}
use Rattle.std.specs.List.{All}
use Rattle.std.proofs.lemmas.List.{length-append}
use Rattle.std.proofs.lemmas.List.Elements.{All-tail}
use Rattle.std.proofs.lemmas.List.Sums.{count_by-le-length, length-filter}
use Rattle.std.proofs.lemmas.Bool.Decides.{leb_tells}
use Rattle.std.proofs.Math.Seq.{get_or-append_seam, split_at}
use Rattle.dnw_base.specs.Names.{labels_wire}
use Rattle.dnw_write_suffixes.specs.Candidates.{Candidate, IsUsable, NoneUsable}
use Rattle.dnw_write_suffixes.specs.Inside.TagTable.{CannotBe, NoneBefore}

pub le_unless : (a b : ℕ) → (b < a → ⊥) → a ≤ b
le_unless a b not = ⊎_elim (λ h. h.1) (λ h. absurd (not h.1)) (leb_tells a b)

-- the candidate stands between those before it and those after
pub between : (own : List ℕ) (cs : List Candidate) (i offset : ℕ) → i < length cs
    → (offset, own) ≡ get_or cs i (offset, own) → cs ≡ take i cs ++ (offset, own) ∷ drop (suc i) cs
between own cs i offset below is =
    split_at cs i (offset, own) below ∙ ap (λ x. take i cs ++ x ∷ drop (suc i) cs) (sym is)

-- ---- candidates that are usable

-- none before this one is
pub not_before : {message : List ℕ} {labels : List (List ℕ)} {cs before after : List Candidate} {offset : ℕ} (n : ℕ)
    → NoneBefore message labels cs n
    → IsUsable message cs labels offset before after → n ≤ length before
not_before {message} {labels} {cs} {before} {after} {offset} n none u = le_unless n (length before) (λ less.
    let x : Candidate = (offset, labels_wire labels) in
    let at : get_or cs (length before) x ≡ x = ap (λ (ds : List Candidate). get_or ds (length before) x) u.split
    ∙ get_or-append_seam before x after x in
    let cannot : CannotBe message labels x = subst (CannotBe message labels) at (none (length before) x (omega arith) less) in
    cannot refl u.end u.pointers u.name)

-- none is usable if none of all of them is
pub none_usable : {message : List ℕ} {labels : List (List ℕ)} {cs : List Candidate} (n : ℕ) → length cs ≤ n
    → NoneBefore message labels cs n → NoneUsable message cs labels
none_usable {message} {labels} {cs} n all none = λ offset before after u.
    let last = not_before n none u in
    omega (arith, last, all, ap length u.split, length-append {A = Candidate})

-- ---- the bytes of labels

pub length_labels_wire : (l : List ℕ) (rest : List (List ℕ))
    → length (labels_wire (l ∷ rest)) ≡ 1 + length l + length (labels_wire rest)
length_labels_wire l rest = omega (arith, length-append l (labels_wire rest))

pub not_nil : {X : Type 0} (xs ys : List X) (y : X) → xs ++ y ∷ ys ≢ []
not_nil [] ys y e = absurd cc
not_nil (x ∷ xs) ys y e = absurd cc

-- ---- those that a test keeps

-- if each passes, all are left
pub kept_all : {X : Type 0} (p : X → Bool) (xs : List X) → All (λ x. p x ≡ true) xs → filter p xs ≡ xs
kept_all p [] all = refl
kept_all p (x ∷ xs) all = grind (arith, all 0 x, kept_all p xs (All-tail (λ y. p y ≡ true) x xs all))

-- if as many are left as there were, they are the same
pub kept_same : {X : Type 0} (p : X → Bool) (xs : List X) → length xs ≤ length (filter p xs) → filter p xs ≡ xs
kept_same p [] le = refl
kept_same p (x ∷ xs) le = grind (arith, kept_same p xs, length-filter p xs, count_by-le-length p xs)
