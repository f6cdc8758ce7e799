-- The search for the longest suffix.
use Rattle.std.proofs.Common.{◌≡◌, ℕ, zero, suc, ◌+◌, ◌-◌, ◌<◌, ◌≤◌, min, rules, tests, List, [], ◌∷◌, ◌++◌, length, take, drop, refl, sym, ap, ◌∙◌, subst, ⊎_elim, append_assoc, arith}
use Rattle.std.proofs.lemmas.List.{length-append, length-take-le, length-take, take_all, take-take, take-append-drop, drop_at, length-drop, drop_all, take-append-le, take_at, append-nil}
use Rattle.std.proofs.lemmas.Bool.Decides.{leb_tells}
use Rattle.std.proofs.Math.Nat.{eq-or-lt_of_le}
use Rattle.dnw_base.specs.Names.{encoded_size, labels_wire}
use Rattle.dnw_base.proofs.Wires.{length_wire}
use Rattle.dnw_write.specs.Encoder.{Encoder, written}
use Rattle.dnw_write.specs.EmittedName.{PointsNowhere, kept, so_far}
use Rattle.dnw_write_suffixes.specs.Candidates.{IsUsable, IsFirstUsable, suffixes, NoneUsable}
use Rattle.dnw_write.specs.Inside.Sharing.{NoneSharedBefore, IsSuffix}
use Rattle.dnw_write_suffixes.proofs.CandidateLists.{length_labels_wire, le_unless}

-- ---- one label more

drop_suc : (ls : List (List ℕ)) (n : ℕ) (l : List ℕ) (rest : List (List ℕ)) → drop n ls ≡ l ∷ rest
    → (suc n ≤ length ls) × (drop (suc n) ls ≡ rest) × (length (labels_wire (take (suc n) ls)) ≡ length (labels_wire (take n ls)) + 1 + length l)
drop_suc [] zero l rest e = absurd cc
drop_suc [] (suc n) l rest e = absurd cc
drop_suc (x ∷ xs) zero l rest e =
    let same : x ≡ l = cc in
    let others : xs ≡ rest = cc in
    (omega arith, others, omega (arith, ap length same, length_labels_wire x []))
drop_suc (x ∷ xs) (suc n) l rest e =
    let (within, others, size) = drop_suc xs n l rest e in
    (omega (arith, within), others, omega (arith, size, length_labels_wire x (take (suc n) xs), length_labels_wire x (take n xs)))

pub drop_next : (ls : List (List ℕ)) (n : ℕ) (l : List ℕ) (rest : List (List ℕ)) → drop n ls ≡ l ∷ rest
    → (n + 1 ≤ length ls) × (drop (n + 1) ls ≡ rest) × (length (labels_wire (take (n + 1) ls)) ≡ length (labels_wire (take n ls)) + 1 + length l)
drop_next ls n l rest e =
    let next : suc n ≡ n + 1 = omega arith in
    subst (λ k. (k ≤ length ls) × (drop k ls ≡ rest) × (length (labels_wire (take k ls)) ≡ length (labels_wire (take n ls)) + 1 + length l)) next
    (drop_suc ls n l rest e)

-- the first labels have no more bytes than all
pub labels_wire_take : (n : ℕ) (ls : List (List ℕ)) → length (labels_wire (take n ls)) ≤ length (labels_wire ls)
labels_wire_take zero ls = omega arith
labels_wire_take (suc n) [] = omega arith
labels_wire_take (suc n) (l ∷ ls) = omega (arith, labels_wire_take n ls, length_labels_wire l ls, length_labels_wire l (take n ls))

-- and all have one less than the uncompressed form
pub length_all : (ls : List (List ℕ)) → length (labels_wire ls) + 1 ≡ encoded_size ls
length_all ls = omega (arith, length-append (labels_wire ls) (0 ∷ []), length_wire ls)

-- one more suffix is not found
pub none_more : (v : Encoder) (ls : List (List ℕ)) (n : ℕ) → NoneSharedBefore v ls n → NoneUsable (so_far v) v.candidates (drop n ls) → NoneSharedBefore v ls (n + 1)
none_more v ls n before here = λ i less.
    ⊎_elim
    (λ same. subst (λ k. NoneUsable (so_far v) v.candidates (drop k ls)) (sym same) here)
    (λ before_n. before i before_n)
    (eq-or-lt_of_le (let le : i ≤ n = omega (arith, less) in le))

-- a suffix that is usable begins where none is ruled out
not_before : (v : Encoder) (ls front back : List (List ℕ)) (n place : ℕ) → NoneSharedBefore v ls n → ls ≡ front ++ back
    → (before after : _) → IsUsable (so_far v) v.candidates back place before after → n ≤ length front
not_before v ls front back n place none parts = λ before after u.
    le_unless n (length front) (λ less.
    let is : drop (length front) ls ≡ back = ap (drop (length front)) parts ∙ drop_at front back (length front) refl in
    none (length front) less place before after (subst (λ b. IsUsable (so_far v) v.candidates b place before after) (sym is) u))

no_more : (ls : List (List ℕ)) → length ls ≤ 0 → ls ≡ []
no_more [] le = refl
no_more (l ∷ ls) le = absurd (omega (arith, le))

-- none is found at all
pub nowhere : (v : Encoder) (ls : List (List ℕ)) (n : ℕ) → n ≤ length ls → drop n ls ≡ [] → NoneSharedBefore v ls n → PointsNowhere v ls
nowhere v ls n within end none = λ front back place before after parts some u.
    let far = not_before v ls front back n place none parts before after u in
    let all : length ls ≤ n = omega (arith, ap length end, length-drop n ls) in
    some (no_more back (omega (arith, far, all, ap length parts, length-append front back)))

-- this one is found first
pub suffix_found : (v : Encoder) (ls : List (List ℕ)) (n size place : ℕ) (l : List ℕ) (rest : List (List ℕ)) → n ≤ length ls → drop n ls ≡ l ∷ rest
    → size ≡ length (labels_wire (take n ls)) → NoneSharedBefore v ls n → IsFirstUsable (so_far v) v.candidates (drop n ls) place → IsSuffix v ls n size place
suffix_found v ls n size place l rest within next size_is none usable = record {
  within = within;
  points = record {
    parts = sym (take-append-drop n ls);
    some = λ e. absurd (let no : l ∷ rest ≡ [] = sym next ∙ e in cc);
    usable = usable;
    longest = λ less more other before after parts some u.
        let far = not_before v ls less more n other none parts before after u in
        omega (arith, far, length-take-le n ls within);
  };
  size_is = size_is;
}

-- ---- what is kept of them

take_twice : {X : Type 0} (a n : ℕ) (xs : List X) → take a (take n xs) ≡ take (min n a) xs
take_twice a n xs =
    ⊎_elim
    (λ (_, le). take_all a (take n xs) (omega (arith, length-take n xs, le)) ∙ ap (λ k. take k xs) (let is : n ≡ min n a = omega (arith, le) in is))
    (λ (_, less). take-take a n xs (omega (arith, less)) ∙ ap (λ k. take k xs) (let is : a ≡ min n a = omega (arith, less) in is))
    (leb_tells n a)

-- pointers do not reach to the end of the labels
pub kept_none : (v : Encoder) (ls : List (List ℕ)) (n : ℕ) → 16383 ≤ v.offset + length (labels_wire ls) → kept v ls n ≡ []
kept_none v ls n far = search (rules, tests)

-- as many are added as the definition says
pub kept_some : (v : Encoder) (ls others : List (List ℕ)) (n m : ℕ) → v.offset + length (labels_wire ls) < 16383
    → m ≡ min n (v.candidate_limit - length v.candidates) → others ≡ ls → take m (suffixes v.offset others) ≡ kept v ls n
kept_some v ls others n m near count same =
    let all : kept v ls n ≡ take (v.candidate_limit - length v.candidates) (take n (suffixes v.offset ls)) = search (rules, tests) in
    rw (count, same) (sym (take_twice (v.candidate_limit - length v.candidates) n (suffixes v.offset ls)) ∙ sym all)

-- none of them
pub kept_zero : (v : Encoder) (ls : List (List ℕ)) (n : ℕ) → n ≡ 0 → kept v ls n ≡ []
kept_zero v ls n none =
    ⊎_elim
    (λ (_, far). kept_none v ls n far)
    (λ (_, near). sym (kept_some v ls ls n 0 near (omega (arith, none)) refl))
    (leb_tells 16383 (v.offset + length (labels_wire ls)))

-- ---- the labels before a pointer, and the pointer

-- bytes over those that stand there, and more bytes after them to the end
pub two_parts : (o e : ℕ) (b r f d : List ℕ) → o ≤ length b → e ≡ o + length f + length d → length (take e b ++ r) ≡ e
    → take (o + length f) (take o (take e b ++ r) ++ (f ++ drop (o + length f) (take e b ++ r)))
    ++ (d ++ drop (o + length f + length d) (take o (take e b ++ r) ++ (f ++ drop (o + length f) (take e b ++ r))))
    ≡ take o b ++ (f ++ d)
two_parts o e b r f d within end size =
    let old = take e b ++ r in
    let front : take o old ≡ take o b =
    take-append-le o (take e b) r (omega (arith, length-take e b, within, end)) ∙ take-take o e b (omega (arith, end)) in
    let first = take o b ++ f in
    let first_size : length first ≡ o + length f = omega (arith, length-append (take o b) f, length-take-le o b within) in
    let middle : take o old ++ (f ++ drop (o + length f) old) ≡ first ++ drop (o + length f) old =
    ap (λ (x : List ℕ). x ++ (f ++ drop (o + length f) old)) front ∙ sym (append_assoc (take o b) f (drop (o + length f) old)) in
    let none : drop (o + length f + length d) (first ++ drop (o + length f) old) ≡ [] =
    drop_all (o + length f + length d) (first ++ drop (o + length f) old)
    (omega (arith, length-append first (drop (o + length f) old), first_size, length-drop (o + length f) old, size, end)) in
    rw middle (rw (take_at first (drop (o + length f) old) (o + length f) first_size, none, append-nil d) (append_assoc (take o b) f d))

-- one write and another after it, over a buffer that was made to fit
pub both_written : (v m w : Encoder) (e : ℕ) (grown r f d : List ℕ) → v.offset ≤ length v.bytes → e ≡ v.offset + length f + length d
    → grown ≡ take e v.bytes ++ r → length grown ≡ e → m ≡ written (record v { bytes = grown }) f → w ≡ written m d
    → w ≡ record v { bytes = take v.offset v.bytes ++ (f ++ d); offset = v.offset + length (f ++ d) }
both_written v m w e grown r f d within end is size first second =
    let bytes = two_parts v.offset e v.bytes r f d within end (sym (ap length is) ∙ size) in
    let offset : v.offset + length f + length d ≡ v.offset + length (f ++ d) = omega (arith, length-append f d) in
    second ∙ (ap (λ (x : Encoder). written x d) first ∙ (ap (λ (x : List ℕ). written (written (record v { bytes = x }) f) d) is
    ∙ (ap (λ (x : List ℕ). record v { bytes = x; offset = v.offset + length f + length d }) bytes
    ∙ ap (λ n. record v { bytes = take v.offset v.bytes ++ (f ++ d); offset = n }) offset)))
