-- A name that is written: what is kept of it, as candidates, and the bytes that it has.
use Rattle.std.proofs.Common.{◌≡◌, ℕ, ◌+◌, ◌-◌, ◌<◌, ◌≤◌, nat_lt, List, [], ◌∷◌, ◌++◌, length, map, take, drop, get_or, Option, Some, None, true, false, refl, sym, ap, ◌∙◌, subst, add-zero, append_assoc, arith}
use Rattle.std.specs.List.{All, Contains}
use Rattle.std.specs.Char.{to_ascii_lowercase}
use Rattle.std.proofs.lemmas.Bool.{cond_both, lt-ltb}
use Rattle.std.proofs.lemmas.List.{append-nil, drop-append-le, drop_at, get_or-take, length-append, length-map, length-take, take-append-drop, take-append-le, take_at}
use Rattle.std.proofs.lemmas.List.Elements.{All-append, All-cons, All-nil, All-take, All-weaker, Contains-append_right}
use Rattle.dnw_base.specs.Limits.{pointer_reach}
use Rattle.dnw_base.specs.Names.{encoded_size, labels_wire, wire}
use Rattle.dnw_write_suffixes.specs.Candidates.{Candidate, suffixes}
use Rattle.dnw_write_suffixes.proofs.CandidateLists.{kept_all, length_labels_wire}
use Rattle.dnw_write.specs.declared.encoder.modes.NameEncoding.{NameEncoding}
use Rattle.dnw_write.specs.declared.encoder.modes.NameEncoding.TheVariants.{Compressed, Uncompressed, UncompressedLowercase}
use Rattle.dnw_write.specs.Encoder.{CandidatesPrecede, Encoder}
use Rattle.dnw_write.specs.EmittedName.{Chooses, Share, compresses, emitted, form, in_mode, is_compressed, kept, newly_kept, pointer_to}
use Rattle.dnw_write.proofs.Emission.{labels_wire_append, length_suffixes}
use Rattle.dnw_write.proofs.Suffixes.{kept_some, length_all}

-- ---- labels and suffixes

pub length_labels : (front back : List (List ℕ)) → length (labels_wire (front ++ back)) ≡ length (labels_wire front) + length (labels_wire back)
length_labels front back = ap length (labels_wire_append front back) ∙ length-append (labels_wire front) (labels_wire back)

-- a suffix of a name is no longer than the name
pub size_back : (ls front back : List (List ℕ)) → ls ≡ front ++ back → encoded_size ls ≡ length (labels_wire front) + encoded_size back
size_back ls front back split =
    omega (arith, length_all ls, length_all back, ap (λ (x : List (List ℕ)). length (labels_wire x)) split, length_labels front back)

-- of two suffixes the one that begins later is the other's
pub suffix_within : (f b g c : List (List ℕ)) → f ++ b ≡ g ++ c → length g ≤ length f → (f ≡ g ++ drop (length g) f) × (c ≡ drop (length g) f ++ b)
suffix_within f b g c e le =
    let n = length g in (
      sym (take-append-drop n f) ∙ ap (λ (xs : List (List ℕ)). xs ++ drop n f) (sym (take-append-le n f b le) ∙ (ap (take n) e ∙ take_at g c n refl)),
      sym (drop_at g c n refl) ∙ (ap (drop n) (sym e) ∙ drop-append-le n f b le),
    )

-- a suffix that begins later is no longer
pub back_least : (f b g c : List (List ℕ)) → f ++ b ≡ g ++ c → length f ≤ length g → encoded_size c ≤ encoded_size b
back_least f b g c e le = omega (arith, size_back b (drop (length f) g) c (suffix_within g c f b (sym e) le).1)

-- a suffix is at the number of labels before it
suffix_at : (p : ℕ) (front : List (List ℕ)) (l : List ℕ) (back : List (List ℕ)) (d : Candidate)
    → get_or (suffixes p (front ++ l ∷ back)) (length front) d ≡ (p + length (labels_wire front), labels_wire (l ∷ back))
suffix_at p [] l back d = rw add-zero refl
suffix_at p (k ∷ front) l back d = rw (suffix_at (p + 1 + length k) front l back d) (ap (λ (q : ℕ). (q, labels_wire (l ∷ back))) (omega (arith, length_labels_wire k front)))

-- What holds of each suffix that begins within the front holds of the first ones.
each_suffix : (P : Candidate → Type 0) (p : ℕ) (front back : List (List ℕ))
    → ((f : List (List ℕ)) (l : List ℕ) (m : List (List ℕ)) → front ≡ f ++ l ∷ m → P (p + length (labels_wire f), labels_wire (l ∷ (m ++ back))))
    → All P (take (length front) (suffixes p (front ++ back)))
each_suffix P p [] back each = All-nil P
each_suffix P p (l ∷ front) back each =
    All-cons P _ _ (rw add-zero at (each [] l front refl)) (each_suffix P (p + 1 + length l) front back (λ f k m is.
    let on : p + length (labels_wire (l ∷ f)) ≡ p + 1 + length l + length (labels_wire f) = omega (arith, length_labels_wire l f) in
    subst (λ q. P (q, labels_wire (k ∷ (m ++ back)))) on (each (l ∷ f) k m (ap (λ (xs : List (List ℕ)). l ∷ xs) is))))

-- ---- what is kept of a name

-- the labels that are written, and those that a pointer stands for
abbrev pub front_of : List (List ℕ) → Option Share → List (List ℕ)
front_of ls None = ls
front_of ls (Some share) = share.front

abbrev pub back_of : Option Share → List (List ℕ)
back_of None = []
back_of (Some share) = share.back

pub both_parts : (v : Encoder) (ls : List (List ℕ)) (choice : Option Share) → Chooses v ls choice → ls ≡ front_of ls choice ++ back_of choice
both_parts v ls None chosen = sym (append-nil ls)
both_parts v ls (Some share) (_, points) = points.parts

-- as many suffixes are kept as the front has labels
newly_front : (v : Encoder) (ls : List (List ℕ)) (choice : Option Share) → newly_kept v ls choice ≡ kept v ls (length (front_of ls choice))
newly_front v ls None = refl
newly_front v ls (Some share) = refl

-- one that a pointer leads to is a candidate
pub target_has : (v : Encoder) (ls : List (List ℕ)) (share : Share) → Chooses v ls (Some share) → Contains v.candidates (share.target, labels_wire share.back)
target_has v ls share (_, points) =
    let u = points.usable in
    rw u.usable.split (Contains-append_right u.before _ _ (0, omega arith, refl))

module _ (v : Encoder) (ls : List (List ℕ)) (choice : Option Share) (chosen : Chooses v ls choice) where
  -- a suffix that begins within the front
  pub suffix-split : (f m : List (List ℕ)) → front_of ls choice ≡ f ++ m → ls ≡ f ++ (m ++ back_of choice)
  suffix-split f m is = both_parts v ls choice chosen ∙ rw is (append_assoc f m (back_of choice))

  -- What holds of each of these holds of what is kept.
  pub each-kept : (P : Candidate → Type 0)
      → ((f : List (List ℕ)) (l : List ℕ) (m : List (List ℕ)) → front_of ls choice ≡ f ++ l ∷ m → P (v.offset + length (labels_wire f), labels_wire (l ∷ (m ++ back_of choice))))
      → All P (newly_kept v ls choice)
  each-kept P each =
      let front = front_of ls choice in
      let all = rw (← both_parts v ls choice chosen) at (each_suffix P v.offset front (back_of choice) each) in
      rw (newly_front v ls choice) (cond_both (nat_lt (v.offset + length (labels_wire ls)) pointer_reach) _ [] (All P)
      (λ e. All-take P (v.candidate_limit - length v.candidates) (take (length front) (suffixes v.offset ls)) all) (λ e. All-nil P))

  -- no more are kept than there are labels
  pub kept-few : length (newly_kept v ls choice) ≤ length ls
  kept-few =
      let first = take (length (front_of ls choice)) (suffixes v.offset ls) in
      rw (newly_front v ls choice) (cond_both (nat_lt (v.offset + length (labels_wire ls)) pointer_reach) (take (v.candidate_limit - length v.candidates) first) [] (λ cs. length cs ≤ length ls)
      (λ e. omega (arith, length-take {A = Candidate}, length_suffixes v.offset ls)) (λ e. omega arith))

  -- Each suffix that begins within the front is, if there is room.
  pub kept-new : (f : List (List ℕ)) (l : List ℕ) (m : List (List ℕ)) → front_of ls choice ≡ f ++ l ∷ m
      → v.offset + length (labels_wire ls) < pointer_reach → length v.candidates + length ls ≤ v.candidate_limit
      → Contains (newly_kept v ls choice) (v.offset + length (labels_wire f), labels_wire (l ∷ (m ++ back_of choice)))
  kept-new f l m is near room =
      let n = length (front_of ls choice) in
      let c : Candidate = (v.offset + length (labels_wire f), labels_wire (l ∷ (m ++ back_of choice))) in
      let split = suffix-split f (l ∷ m) is in
      let few : n ≤ length ls = omega (arith, ap length (both_parts v ls choice chosen), length-append {A = List ℕ}) in
      let less : length f < n = omega (arith, ap length is, length-append {A = List ℕ}) in
      let size = ap length split in
      let all = kept_some v ls (f ++ (l ∷ (m ++ back_of choice))) n n near (omega (arith, room, few)) (sym split) in
      rw (newly_front v ls choice, ← all) (
        length f,
        omega (arith, length-take {A = Candidate}, length_suffixes v.offset (f ++ (l ∷ (m ++ back_of choice))), length-append {A = List ℕ}),
        get_or-take n (suffixes v.offset (f ++ (l ∷ (m ++ back_of choice)))) (length f) c less ∙ suffix_at v.offset f l (m ++ back_of choice) c,
      )

-- Those that are kept follow the others: none of them is from the pointer on.
pub emitted_candidates : (v : Encoder) (ls : List (List ℕ)) (choice : Option Share) → Chooses v ls choice → CandidatesPrecede v
    → (emitted v ls choice).candidates ≡ v.candidates ++ newly_kept v ls choice
emitted_candidates v ls None chosen precede = refl
emitted_candidates v ls (Some share) chosen precede =
    let o = v.offset + length (labels_wire share.front) in
    kept_all (λ c. nat_lt c.0 o) _ (All-weaker (λ c. c.0 < o) (λ c. nat_lt c.0 o ≡ true) (λ c. lt-ltb c.0 o) _
    (All-append (λ c. c.0 < o) v.candidates (newly_kept v ls (Some share)) (All-weaker (λ c. c.0 < v.offset) (λ c. c.0 < o) (λ c less. omega (arith, less)) v.candidates precede)
    (each-kept v ls (Some share) chosen (λ c. c.0 < o) (λ f l m is.
    omega (arith, ap (λ (xs : List (List ℕ)). length (labels_wire xs)) is, length_labels f (l ∷ m), length_labels_wire l m)))))

-- ---- what is written of it

-- these labels of the front, and what follows them
abbrev pub tail_of : List (List ℕ) → Option Share → List ℕ
tail_of m None = wire m
tail_of m (Some share) = labels_wire m ++ pointer_to share.target

pub form_tail : (ls : List (List ℕ)) (choice : Option Share) (f m : List (List ℕ)) → front_of ls choice ≡ f ++ m → form ls choice ≡ labels_wire f ++ tail_of m choice
form_tail ls None f m is = rw (is, labels_wire_append) (append_assoc (labels_wire f) (labels_wire m) (0 ∷ []))
form_tail ls (Some share) f m is = rw (is, labels_wire_append) (append_assoc (labels_wire f) (labels_wire m) (pointer_to share.target))

-- a name counts once at most, whole or with a pointer
pub emitted_names : (v : Encoder) (ls : List (List ℕ)) (choice : Option Share) → (emitted v ls choice).names ≤ v.names + 1
emitted_names v ls None = cond_both (compresses v) (v.names + 1) v.names (λ n. n ≤ v.names + 1) (λ e. omega arith) (λ e. omega arith)
emitted_names v ls (Some share) = cond_both (compresses v) (v.names + 1) v.names (λ n. n ≤ v.names + 1) (λ e. omega arith) (λ e. omega arith)

-- ---- what its mode makes of it

-- a mode leaves the number of labels
pub length_in_mode : (mode : NameEncoding) (ls : List (List ℕ)) → length (in_mode mode ls) ≡ length ls
length_in_mode UncompressedLowercase ls = length-map ls (map to_ascii_lowercase)
length_in_mode Compressed ls = refl
length_in_mode Uncompressed ls = refl

-- compression leaves the labels as they are
pub in_mode_compressed : (mode : NameEncoding) (ls : List (List ℕ)) → is_compressed mode ≡ true → in_mode mode ls ≡ ls
in_mode_compressed Compressed ls e = refl
in_mode_compressed Uncompressed ls e = refl
in_mode_compressed UncompressedLowercase ls e = absurd (let no : false ≡ true = e in cc)
