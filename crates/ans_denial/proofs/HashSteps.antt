-- The code's steps by hashes are those of the definitions.
use Rattle.std.proofs.Common.{◌≡◌, ◌+◌, ◌-◌, ◌<◌, ◌≤◌, ℕ, Bool, true, false, List, [], ◌∷◌, length, get_or, drop, map, nat_lt, Some, None, Result, Ok, refl, sym, ap, ◌∙◌, subst, arith}
use Rattle.std.proofs.lemmas.List.{at_drop_more, drop_all}
use Rattle.std.specs.List.{find}
use Rattle.std.proofs.lemmas.Bool.Decides.{nat_tests}
use Rattle.std.specs.Result.{IfOk}
use Rattle.dns_names_wire.specs.Words.{is_in}
use Rattle.ans_denial.specs.Denials.{denied_by}
use Rattle.ans_denial.specs.Hashes.{Nsec3Value, climb, covers_hash, denies_by_hashes, hash_count, hashed_existence, own_record, said_below}
use Rattle.ans_denial.specs.HashesSeen.{hash_by, hashing_seen, nsec3_seen}
use Rattle.ans_denial.specs.Nsecs.{Owns, Unknown}
use Rattle.ans_denial.specs.Seen.{labels_above, last_labels}
use Rattle.ans_denial.specs.declared.denial.Reason.TheVariants.{NoRecord}
use Rattle.ans_denial.specs.declared.nsec3.Hashing.{Hashing}
use Rattle.ans_denial.specs.declared.nsec3.Nsec3.{Nsec3}
use Rattle.ans_denial.proofs.Steps.{next_is}

-- ---- a record that is found

module _ (p : Nsec3Value → Bool) (nsecs : List Nsec3) where
  -- The first that passes is among those from one on.
  abbrev pub IsFrom : ℕ → Type 0
  IsFrom i = find p (map nsec3_seen nsecs) ≡ find p (map nsec3_seen (drop i nsecs))

  from_next : (i : ℕ) (nsec : Nsec3) → i < length nsecs → nsec ≡ get_or nsecs i nsec
      → find p (map nsec3_seen (drop i nsecs)) ≡ find p (nsec3_seen nsec ∷ map nsec3_seen (drop (i + 1) nsecs))
  from_next i nsec below is =
      at_drop_more (λ (ns : List Nsec3). find p (map nsec3_seen ns)) nsecs i nsec below
      ∙ ap (λ (n : Nsec3). find p (nsec3_seen n ∷ map nsec3_seen (drop (i + 1) nsecs))) (sym is)

  pub found_at : (i : ℕ) (nsec : Nsec3) → IsFrom i → i < length nsecs → nsec ≡ get_or nsecs i nsec → p (nsec3_seen nsec) ≡ true
      → Some (nsec3_seen nsec) ≡ find p (map nsec3_seen nsecs)
  found_at i nsec from below is passes = sym (from ∙ (from_next i nsec below is ∙ rw passes refl))

  pub from_more : (i : ℕ) (nsec : Nsec3) → IsFrom i → i < length nsecs → nsec ≡ get_or nsecs i nsec → p (nsec3_seen nsec) ≡ false → IsFrom (i + 1)
  from_more i nsec from below is fails = from ∙ (from_next i nsec below is ∙ rw fails refl)

  pub none_found : (i : ℕ) → IsFrom i → length nsecs ≤ i → None ≡ find p (map nsec3_seen nsecs)
  none_found i from past = sym (from ∙ ap (λ (ns : List Nsec3). find p (map nsec3_seen ns)) (drop_all i nsecs past))

-- ---- up from a name, label by label

module _ (hash : List (List ℕ) → List ℕ) (nsecs : List Nsec3Value) (apex name : List (List ℕ)) where
  -- What is said of a name is what is said of its last labels, so many, which have this hash.
  pub record IsHashing (count : ℕ) (next : List ℕ) : Type 0 where
    pub within : count ≤ length name
    pub hashed : next ≡ hash (last_labels name count)
    pub same : climb hash nsecs apex name ≡ climb hash nsecs apex (last_labels name count)

  pub hashing_starts : (count : ℕ) (next : List ℕ) → count ≡ length name → next ≡ hash name → IsHashing count next
  hashing_starts count next is hashed =
      let none : length name - count ≡ 0 = omega arith in
      let whole : last_labels name count ≡ name = ap (λ n. drop n name) none in
      record { within = omega arith; hashed = hashed ∙ ap hash (sym whole); same = ap (climb hash nsecs apex) (sym whole) }

  climb_next : (count : ℕ) (next : List ℕ) → 0 < count → IsHashing count next
      → climb hash nsecs apex name ≡ climb hash nsecs apex (get_or name (length name - count) [] ∷ labels_above name count)
  climb_next count next some way = way.same ∙ ap (climb hash nsecs apex) (next_is name count some way.within)

  pub climb_out : (count : ℕ) (next : List ℕ) → 0 < count → IsHashing count next → is_in apex (labels_above name count) ≡ false
      → Unknown NoRecord ≡ climb hash nsecs apex name
  unfolding climb
  climb_out count next some way out = sym (climb_next count next some way ∙ rw out refl)

  pub climb_found : (count : ℕ) (next : List ℕ) (nsec : Nsec3Value) → 0 < count → IsHashing count next → is_in apex (labels_above name count) ≡ true
      → Some nsec ≡ own_record hash nsecs (labels_above name count)
      → said_below (labels_above name count) nsec (find (covers_hash next) nsecs) ≡ climb hash nsecs apex name
  unfolding climb
  climb_found count next nsec some way inside found =
      let label = get_or name (length name - count) [] in
      let above = labels_above name count in
      let hashed : next ≡ hash (label ∷ above) = way.hashed ∙ ap hash (next_is name count some way.within) in
      ap (λ (h : List ℕ). said_below above nsec (find (covers_hash h) nsecs)) hashed
      ∙ sym (climb_next count next some way ∙ rw (inside, sym found) refl)

  pub climb_more : (count : ℕ) (next own : List ℕ) → 0 < count → IsHashing count next → is_in apex (labels_above name count) ≡ true
      → None ≡ own_record hash nsecs (labels_above name count) → own ≡ hash (labels_above name count) → IsHashing (count - 1) own
  unfolding climb
  climb_more count next own some way inside none is =
      let within = way.within in
      record { within = omega arith; hashed = is; same = climb_next count next some way ∙ rw (inside, sym none) refl }

  pub climb_ends : (count : ℕ) (next : List ℕ) → count ≤ 0 → IsHashing count next → Unknown NoRecord ≡ climb hash nsecs apex name
  unfolding climb
  climb_ends count next last way =
      let none : last_labels name count ≡ [] = drop_all (length name - count) name (omega arith) in
      sym (way.same ∙ ap (climb hash nsecs apex) none)

  pub whole_found : (nsec : Nsec3Value) → Some nsec ≡ own_record hash nsecs name → Owns nsec.types ≡ hashed_existence hash nsecs apex name
  unfolding hashed_existence
  whole_found nsec found = rw (sym found) refl

  pub whole_none : None ≡ own_record hash nsecs name → climb hash nsecs apex name ≡ hashed_existence hash nsecs apex name
  unfolding hashed_existence
  whole_none none = rw (sym none) refl

-- ---- what a caller allows

not_past : (a b : ℕ) → b ≤ a → nat_lt a b ≡ false
not_past a b h = grind (arith, nat_tests)

pub within_bounds : (nsecs : List Nsec3Value) (hashing : Hashing) (name : List (List ℕ)) (code : ℕ) (apex : List (List ℕ))
    → hashing.iterations ≤ hashing.most_iterations → hash_count name apex ≤ hashing.most_hashes
    → denied_by (hashed_existence (hash_by hashing) nsecs apex) name code apex ≡ denies_by_hashes nsecs (hashing_seen hashing) name code apex
unfolding denies_by_hashes hash_by
within_bounds nsecs hashing name code apex a b =
    rw (not_past hashing.most_iterations hashing.iterations a, not_past hashing.most_hashes (hash_count name apex) b) refl

pub ok_hash : {E : Type 0} (M : Type 0) (r : Result (List ℕ) E) (x hash : List ℕ) → r ≡ Ok x → IfOk r (λ own. M × (own ≡ hash)) → x ≡ hash
ok_hash {E} M r x hash is holds = (subst (λ (q : Result (List ℕ) E). IfOk q (λ own. M × (own ≡ hash))) is holds).1
