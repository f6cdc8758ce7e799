-- The code's steps are those of the definitions.
use Rattle.std.proofs.Common.{◌≡◌, ◌==◌, ◌+◌, ◌-◌, ◌<◌, ◌≤◌, ℕ, Bool, true, false, cond, true≢false, List, [], ◌∷◌, length, get_or, drop, map, Some, None, refl, sym, ap, ◌∙◌, arith}
use Rattle.std.proofs.lemmas.Bool.{and_parts, cond-false}
use Rattle.std.proofs.lemmas.List.{at_drop_more, drop_all, drop_more}
use Rattle.std.specs.Cmp.{both_ways}
use Rattle.std.specs.Cmp.Lexicographic.{slice_cmp}
use Rattle.std.specs.Ordering.{is_lt}
use Rattle.std.specs.declared.cmp.Ordering.{Ordering}
use Rattle.std.specs.declared.cmp.Ordering.TheVariants.{Less, Equal, Greater}
use Rattle.dns_names_wire.specs.Words.{NsecCovers, RecordType, is_in, labels_cmp, octets_cmp, type_code, wildcard}
use Rattle.ans_store.proofs.Names.{in_if_zone, zone_if_in}
use Rattle.ans_denial.specs.Nsecs.{Existence, NsecValue, Unknown, closest, covers, existence, is_above_ends, lists, said_by}
use Rattle.ans_denial.specs.Seen.{codes, labels_above, last_labels, nsec_seen}
use Rattle.ans_denial.specs.declared.denial.Reason.TheVariants.{NoRecord}
use Rattle.ans_denial.specs.declared.nsec.Nsec.{Nsec}
use Rattle.ans_denial.proofs.Covers.{after_owner, before_next, covered_if}

-- ---- types

pub lists_here : (listed : RecordType) (types : List RecordType) (code : ℕ) → (type_code listed == code) ≡ true → lists (codes (listed ∷ types)) code ≡ true
unfolding lists
lists_here listed types code h = rw h refl

pub lists_later : (listed : RecordType) (types : List RecordType) (code : ℕ) → (type_code listed == code) ≡ false
    → lists (codes (listed ∷ types)) code ≡ lists (codes types) code
unfolding lists
lists_later listed types code h = rw h refl

pub lists_none : (code : ℕ) → lists [] code ≡ false
unfolding lists
lists_none code = refl

-- ---- names that a record covers

pub less_is : (o : Ordering) → is_lt o ≡ true → o ≡ Less
less_is Less h = refl
less_is Equal h = absurd (true≢false (sym h))
less_is Greater h = absurd (true≢false (sym h))

in_if_last : (nsec : NsecValue) (name : List (List ℕ)) → covers nsec name ≡ true → is_lt (labels_cmp nsec.owner nsec.next) ≡ false → is_in nsec.next name ≡ true
unfolding covers
in_if_last nsec name h last =
    sym (cond-false (is_lt (labels_cmp nsec.owner nsec.next)) (is_lt (labels_cmp name nsec.next)) (is_in nsec.next name) last)
    ∙ (and_parts (is_lt (labels_cmp nsec.owner name)) _ h).1

pub not_less : (o : Ordering) → (o ≡ Less → ⊥) → is_lt o ≡ false
not_less Less none = absurd (none refl)
not_less Equal none = refl
not_less Greater none = refl

pub covers_by_test : (b : Bool) (nsec : NsecValue) (name : List (List ℕ))
    → (b ≡ true → NsecCovers nsec.owner nsec.next name) × (NsecCovers nsec.owner nsec.next name → b ≡ true) → b ≡ covers nsec name
covers_by_test b nsec name test =
    both_ways b (covers nsec name)
    (λ yes. let found = test.0 yes in
    covered_if nsec name (ap is_lt found.after) (λ less. ap is_lt (found.before (less_is (labels_cmp nsec.owner nsec.next) less)))
    (λ last. in_if_zone nsec.next name (found.within (λ less. true≢false (sym (ap is_lt less) ∙ last)))))
    (λ yes. test.1 (record {
      after = less_is (labels_cmp nsec.owner name) (after_owner nsec name yes);
      before = λ less. less_is (labels_cmp name nsec.next) (before_next nsec name yes (ap is_lt less));
      within = λ other. zone_if_in nsec.next name (in_if_last nsec name yes (not_less (labels_cmp nsec.owner nsec.next) other));
    }))

none_before : (xs : List (List ℕ)) → is_lt (slice_cmp octets_cmp xs []) ≡ false
none_before [] = refl
none_before (x ∷ xs) = refl

-- The root is after no name.
pub some_labels : (nsec : NsecValue) (name : List (List ℕ)) → covers nsec name ≡ true → 0 < length name
some_labels nsec [] h = absurd (true≢false (sym (after_owner nsec [] h) ∙ none_before _))
some_labels nsec (label ∷ name) h = omega arith

-- ---- records, one after another

pub said_here : (nsec : NsecValue) (nsecs : List NsecValue) (name : List (List ℕ)) (e : Existence) → said_by nsec name ≡ Some e → existence (nsec ∷ nsecs) name ≡ e
unfolding existence
said_here nsec nsecs name e h = rw h refl

pub said_later : (nsec : NsecValue) (nsecs : List NsecValue) (name : List (List ℕ)) → said_by nsec name ≡ None
    → existence (nsec ∷ nsecs) name ≡ existence nsecs name
unfolding existence
said_later nsec nsecs name h = rw h refl

pub says_nothing : (name : List (List ℕ)) → existence [] name ≡ Unknown NoRecord
unfolding existence
says_nothing name = refl

module _ (nsecs : List Nsec) (name : List (List ℕ)) where
  -- The records from one on say what all say.
  abbrev pub SaysAll : ℕ → Type 0
  SaysAll i = existence (map nsec_seen nsecs) name ≡ existence (map nsec_seen (drop i nsecs)) name

  from_next : (i : ℕ) (nsec : Nsec) → i < length nsecs → nsec ≡ get_or nsecs i nsec
      → existence (map nsec_seen (drop i nsecs)) name ≡ existence (nsec_seen nsec ∷ map nsec_seen (drop (i + 1) nsecs)) name
  from_next i nsec below is =
      at_drop_more (λ (ns : List Nsec). existence (map nsec_seen ns) name) nsecs i nsec below
      ∙ ap (λ (n : Nsec). existence (nsec_seen n ∷ map nsec_seen (drop (i + 1) nsecs)) name) (sym is)

  pub said_at : (i : ℕ) (nsec : Nsec) (e : Existence) → SaysAll i → i < length nsecs → nsec ≡ get_or nsecs i nsec → said_by (nsec_seen nsec) name ≡ Some e
      → e ≡ existence (map nsec_seen nsecs) name
  said_at i nsec e says below is said =
      sym (says ∙ (from_next i nsec below is ∙ said_here (nsec_seen nsec) (map nsec_seen (drop (i + 1) nsecs)) name e said))

  pub says_next : (i : ℕ) (nsec : Nsec) → SaysAll i → i < length nsecs → nsec ≡ get_or nsecs i nsec → said_by (nsec_seen nsec) name ≡ None → SaysAll (i + 1)
  says_next i nsec says below is none =
      says ∙ (from_next i nsec below is ∙ said_later (nsec_seen nsec) (map nsec_seen (drop (i + 1) nsecs)) name none)

  pub says_none : (i : ℕ) → SaysAll i → length nsecs ≤ i → Unknown NoRecord ≡ existence (map nsec_seen nsecs) name
  says_none i says past =
      sym (says ∙ (ap (λ (ns : List Nsec). existence (map nsec_seen ns) name) (drop_all i nsecs past) ∙ says_nothing name))

-- ---- up from a name, label by label

pub next_is : (name : List (List ℕ)) (count : ℕ) → 0 < count → count ≤ length name → last_labels name count ≡ get_or name (length name - count) [] ∷ labels_above name count
next_is name count some within =
    let back : length name - count + 1 ≡ length name - (count - 1) = omega arith in
    drop_more name (length name - count) [] (omega arith) ∙ ap (λ n. get_or name (length name - count) [] ∷ drop n name) back

pub wild_beside : (name : List (List ℕ)) (count : ℕ) → 0 < count → count ≤ length name → wildcard ∷ drop (length name - count + 1) name ≡ wildcard ∷ labels_above name count
wild_beside name count some within =
    let back : length name - count + 1 ≡ length name - (count - 1) = omega arith in
    ap (λ n. wildcard ∷ drop n name) back

no_label : (b : Bool) → cond {A = List (List ℕ)} b [] [] ≡ []
no_label true = refl
no_label false = refl

module _ (nsec : NsecValue) (name : List (List ℕ)) where
  -- The closest encloser of a name is that of its last labels, so many.
  pub record IsClimbing (count : ℕ) : Type 0 where
    pub some : 0 < count
    pub within : count ≤ length name
    pub same : closest nsec name ≡ closest nsec (last_labels name count)

  pub climb_starts : (count : ℕ) → covers nsec name ≡ true → count ≡ length name → IsClimbing count
  climb_starts count covered is =
      let long : 0 < length name = some_labels nsec name covered in
      let none : length name - count ≡ 0 = omega arith in
      record { some = omega arith; within = omega arith; same = sym (ap (λ n. closest nsec (drop n name)) none) }

  pub climb_here : (count : ℕ) → IsClimbing count → is_above_ends nsec (labels_above name count) ≡ true → labels_above name count ≡ closest nsec name
  unfolding closest
  climb_here count way ends = sym (way.same ∙ (ap (closest nsec) (next_is name count way.some way.within) ∙ rw ends refl))

  pub climb_up : (count : ℕ) → 1 < count → IsClimbing count → is_above_ends nsec (labels_above name count) ≡ false → IsClimbing (count - 1)
  unfolding closest
  climb_up count more way passes =
      let within = way.within in
      record { some = omega arith; within = omega arith; same = way.same ∙ (ap (closest nsec) (next_is name count way.some way.within) ∙ rw passes refl) }

  pub climb_ends : (count : ℕ) → count ≤ 1 → IsClimbing count → labels_above name count ≡ closest nsec name
  unfolding closest
  climb_ends count last way =
      let some = way.some in
      let none : labels_above name count ≡ [] = drop_all (length name - (count - 1)) name (omega arith) in
      none
      ∙ sym (way.same ∙ (ap (closest nsec) (next_is name count way.some way.within)
      ∙ (ap (λ (ls : List (List ℕ)). cond (is_above_ends nsec ls) ls (closest nsec ls)) none ∙ no_label (is_above_ends nsec []))))
