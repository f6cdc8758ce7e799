-- What is said of names by NSEC3 records of a zone's chain holds in the zone.
use borrow.Author.Tests.{ltb-true}
use Rattle.std.proofs.Common.{◌≡◌, ◌+◌, ◌-◌, ◌<◌, ◌&&◌, ℕ, nat_lt, length, get_or, take, Bool, true, false, true≢false, List, [], ◌∷◌, ◌++◌, drop, Option, Some, None, refl, sym, ap, ◌∙◌, subst, inl, inr, arith}
use Rattle.std.proofs.lemmas.Bool.{and_parts, cases_Bool, cond_both, false_from_ne_true}
use Rattle.std.proofs.lemmas.List.{append_assoc, drop_more, take-append-drop}
use Rattle.std.specs.Cmp.{both_ways}
use Rattle.std.specs.Cmp.Lexicographic.{bytes_decides}
use Rattle.std.specs.List.{AllByRecursion, find, list_any}
use Rattle.std.specs.Option.{option_map, unwrap_or}
use Rattle.dns_names_wire.specs.Words.{RecordValue, ds_code, is_in, lower, ns_code, soa_code, wildcard}
use Rattle.ans_store.specs.Zones.{IsZone, ZoneValue, have_type, name_exists, owned_by}
use Rattle.ans_answer.proofs.Down.{if_not_true, nothing_owned}
use Rattle.ans_answer.specs.Outcomes.{Synthesised, encloser, outcome, sent_above}
use Rattle.ans_denial.specs.Chains.{HasNsec, is_due}
use Rattle.ans_denial.specs.Hashes.{Nsec3Value, climb, covering_record, covers_hash, covers_whole, expands, has_hash, hashed_existence, own_record, said_below, said_next}
use Rattle.ans_denial.specs.HashedChains.{ExpansionsAreSound, HasNsec3, HashedDenialsAreSound, IsOfHashedChain, IsOneToOne}
use Rattle.ans_denial.specs.Seen.{last_labels}
use Rattle.ans_denial.specs.Soundness.{Remains}
use Rattle.ans_denial.specs.declared.denial.Reason.TheVariants.{OptOut}
use Rattle.ans_denial.proofs.Referring.{referred}
use Rattle.ans_denial.specs.Nsecs.{Missing, Owns, Unknown, lists, sends_below}
use Rattle.ans_denial.proofs.Covering.{AreTypesOf, encloser_self, owner_exists, sends_none}
use Rattle.ans_denial.proofs.Holding.{Holds, IsMissing, IsOwner, types_alike}
use Rattle.ans_denial.proofs.Names.{any_more, in_alike, in_last, in_trans}
use Rattle.ans_denial.proofs.Sending.{not_sent_at, sent_above_alike, sent_step}
use Rattle.ans_denial.proofs.Sound.{denial_is, missing_is, wild_is}

-- ---- names below one that does not exist

gone_below : (zs : List RecordValue) (front up : List (List ℕ)) → name_exists up zs ≡ false → name_exists (front ++ up) zs ≡ false
unfolding name_exists
gone_below zs front up gone =
    false_from_ne_true (list_any (λ r. is_in (front ++ up) r.owner) zs) (λ there. true≢false
    (sym (any_more (λ r. is_in up r.owner) (λ r. is_in (front ++ up) r.owner) zs (λ z below. in_trans up (front ++ up) z.owner (in_last front up) below) there) ∙ gone))

module _ (zone : ZoneValue) where
  free_below_gone : (front up : List (List ℕ)) → name_exists up zone.records ≡ false → sent_above zone up ≡ None → sent_above zone (front ++ up) ≡ None
  free_below_gone [] up gone free = free
  free_below_gone (label ∷ front) up gone free =
      sent_step zone label (front ++ up) (free_below_gone front up gone free)
      (λ _. not_sent_at zone (front ++ up) (nothing_owned zone.records (front ++ up) (gone_below zone.records front up gone)))

  encloser_below_gone : (front up : List (List ℕ)) → name_exists up zone.records ≡ false → encloser zone (front ++ up) ≡ encloser zone up
  unfolding encloser
  encloser_below_gone [] up gone = refl
  encloser_below_gone (label ∷ front) up gone =
      rw (gone_below zone.records (label ∷ front) up gone) (encloser_below_gone front up gone)

  encloser_next : (label : List ℕ) (above : List (List ℕ)) → name_exists (label ∷ above) zone.records ≡ false → name_exists above zone.records ≡ true
      → encloser zone (label ∷ above) ≡ above
  unfolding encloser
  encloser_next label above gone there = rw gone (encloser_self zone above there)

  -- The closest encloser is the last labels of a name.
  encloser_last : (up front : List (List ℕ)) → (more : List (List ℕ)) × (front ++ up ≡ more ++ encloser zone up)
  unfolding encloser
  encloser_last [] front = (front, refl)
  encloser_last (label ∷ above) front =
      cond_both (name_exists (label ∷ above) zone.records) (label ∷ above) (encloser zone above)
      (λ (n : List (List ℕ)). (more : List (List ℕ)) × (front ++ (label ∷ above) ≡ more ++ n))
      (λ _. (front, refl))
      (λ _. let (more, is) = encloser_last above (front ++ (label ∷ [])) in (more, sym (append_assoc front (label ∷ []) above) ∙ is))

  -- What is sent away from a name is so for each beside it.
  beside : (label other : List ℕ) (above : List (List ℕ)) → sent_above zone (label ∷ above) ≡ None → sent_above zone (other ∷ above) ≡ None
  unfolding sent_above
  beside label other above free = free

  exists_alike : (x y : List (List ℕ)) → lower x ≡ lower y → name_exists x zone.records ≡ true → name_exists y zone.records ≡ true
  unfolding name_exists
  exists_alike x y h there =
      any_more (λ r. is_in y r.owner) (λ r. is_in x r.owner) zone.records (λ z inside. sym (in_alike x y z.owner h) ∙ inside) there

-- ---- records that are found

found_is : (P : Nsec3Value → Type 0) (p : Nsec3Value → Bool) (nsecs : List Nsec3Value) (nsec : Nsec3Value) → AllByRecursion P nsecs → find p nsecs ≡ Some nsec
    → (p nsec ≡ true) × P nsec
found_is P p [] nsec all h = cc
found_is P p (n ∷ nsecs) nsec (one, all) h = elim (cases_Bool (p n)) [
  | inl passes ↦
      let is : Some n ≡ Some nsec = rw passes at h in
      let same : n ≡ nsec = cc in
      (subst (λ x. p x ≡ true) same passes, subst P same one)
  | inr fails ↦ found_is P p nsecs nsec all (rw fails at h)
]

hash_is : (hash : List ℕ) (nsec : Nsec3Value) → has_hash hash nsec ≡ true → nsec.own ≡ hash
unfolding has_hash
hash_is hash nsec h = (bytes_decides nsec.own hash).0 h

-- ---- one record

only_due : (a b : Bool) → (a ≡ true → b ≡ true) → (b ≡ true → a ≡ true) → a ≡ b
only_due a b f g = both_ways a b f g

module _ (hash : List (List ℕ) → List ℕ) (zone : ZoneValue) where
  record_types : (nsec : Nsec3Value) → (link : IsOfHashedChain hash zone nsec) → AreTypesOf zone link.name nsec.types
  record_types nsec link = record {
    all = link.all;
    only_ns = only_due (lists nsec.types ns_code) (is_due zone link.name ns_code)
        (λ yes. elim (link.only ns_code yes) [ inl due ↦ due | inr other ↦ absurd (omega arith) ]) (link.all ns_code);
    only_soa = only_due (lists nsec.types soa_code) (is_due zone link.name soa_code)
        (λ yes. elim (link.only soa_code yes) [ inl due ↦ due | inr other ↦ absurd (omega arith) ]) (link.all soa_code);
  }

  module _ (nsecs : List Nsec3Value) (all : AllByRecursion (IsOfHashedChain hash zone) nsecs) where
    -- The record of a name is that of the name.
    own_holds : (name : List (List ℕ)) (nsec : Nsec3Value)
        → ((own : List (List ℕ)) → HasNsec3 zone own → hash own ≡ hash name → lower own ≡ lower name) → own_record hash nsecs name ≡ Some nsec
        → IsOwner zone name nsec.types
    own_holds name nsec alone is =
        let (passes, link) = found_is (IsOfHashedChain hash zone) (has_hash (hash name)) nsecs nsec all is in
        let same : lower link.name ≡ lower name = alone link.name link.has (sym link.own ∙ hash_is (hash name) nsec passes) in
        record {
          not_sent = sent_above_alike zone name link.name (sym same) ∙ link.has.not_sent;
          there = exists_alike zone link.name name same link.has.there;
          are = types_alike zone link.name name nsec.types same (record_types nsec link);
        }

    -- The next closer name does not exist if it is covered, and none is left out.
    missing_next : (front : List (List ℕ)) (label : List ℕ) (above : List (List ℕ)) (other : Nsec3Value) → is_in zone.apex above ≡ true
        → sent_above zone (label ∷ above) ≡ None → name_exists above zone.records ≡ true → covering_record hash nsecs (label ∷ above) ≡ Some other
        → other.opt_out ≡ false → IsMissing zone (front ++ (label ∷ above)) above
    missing_next front label above other inside free there is whole =
        let (passes, link) = found_is (IsOfHashedChain hash zone) (covers_hash (hash (label ∷ above))) nsecs other all is in
        let gone : name_exists (label ∷ above) zone.records ≡ false =
        false_from_ne_true (name_exists (label ∷ above) zone.records) (λ exists.
        let has : HasNsec3 zone (label ∷ above) =
        record { inside = in_trans zone.apex above (label ∷ above) inside (in_last (label ∷ []) above); there = exists; not_sent = free } in
        true≢false (sym (link.nearest (label ∷ above) has passes).0 ∙ whole)) in
        record {
          not_sent = free_below_gone zone front (label ∷ above) gone free;
          gone = gone_below zone.records front (label ∷ above) gone;
          above = encloser_below_gone zone front (label ∷ above) gone ∙ encloser_next zone label above gone there;
        }

    -- A delegation that is at or below a name whose hash is covered has no DS records.
    left_out : (front : List (List ℕ)) (label : List ℕ) (above : List (List ℕ)) (other : Nsec3Value) → is_in zone.apex above ≡ true
        → sent_above zone (label ∷ above) ≡ None → covering_record hash nsecs (label ∷ above) ≡ Some other
        → Remains zone (front ++ (label ∷ above)) OptOut
    left_out front label above other inside free is code records said =
        let (cut, has, below, owned) = referred zone (label ∷ above) free front code records said in
        let (passes, link) = found_is (IsOfHashedChain hash zone) (covers_hash (hash (label ∷ above))) nsecs other all is in
        let own : HasNsec3 zone (label ∷ above) =
        record {
          inside = in_trans zone.apex above (label ∷ above) inside (in_last (label ∷ []) above);
          there = owner_exists (label ∷ above) cut zone.records below has.owns;
          not_sent = free;
        } in
        subst (λ (rs : List RecordValue). have_type ds_code rs ≡ false) (sym owned) ((link.nearest (label ∷ above) own passes).1 cut has below).1

    next_holds : (front : List (List ℕ)) (label : List ℕ) (above : List (List ℕ)) (nsec : Nsec3Value) (o : Option Nsec3Value) → is_in zone.apex above ≡ true
        → IsOwner zone above nsec.types → covering_record hash nsecs (label ∷ above) ≡ o → Holds zone (front ++ (label ∷ above)) (said_below above nsec o)
    unfolding said_below said_next
    next_holds front label above nsec None inside owner is =
        cond_both (sends_below nsec.types) _ _ (Holds zone (front ++ (label ∷ above))) (λ _. tt) (λ _. tt)
    next_holds front label above nsec (Some other) inside owner is =
        cond_both (sends_below nsec.types) _ _ (Holds zone (front ++ (label ∷ above))) (λ _. tt)
        (λ keeps. cond_both other.opt_out (Unknown OptOut) (Missing above) (Holds zone (front ++ (label ∷ above)))
        (λ _. left_out front label above other inside
        (sent_step zone label above owner.not_sent (λ _. sends_none zone above nsec.types owner.are keeps)) is)
        (missing_next front label above other inside
        (sent_step zone label above owner.not_sent (λ _. sends_none zone above nsec.types owner.are keeps)) owner.there is))

    -- Beside the answer of a wildcard the name above it exists, and sends nothing away.
    expanded_by : (front : List (List ℕ)) (label : List ℕ) (above : List (List ℕ)) (o : Option Nsec3Value) → is_in zone.apex above ≡ true
        → HasNsec zone (wildcard ∷ above) → covering_record hash nsecs (label ∷ above) ≡ o → covers_whole o ≡ true
        → IsMissing zone (front ++ (label ∷ above)) above
    unfolding covers_whole
    expanded_by front label above None inside has is whole = absurd (true≢false (sym whole))
    expanded_by front label above (Some other) inside has is whole =
        missing_next front label above other inside (beside zone wildcard label above has.not_sent)
        (owner_exists above (wildcard ∷ above) zone.records (in_last (wildcard ∷ []) above) has.owns) is (if_not_true other.opt_out whole)

    module _ (name : List (List ℕ)) (alone : (front other : List (List ℕ)) → name ≡ front ++ other
        → (own : List (List ℕ)) → HasNsec3 zone own → hash own ≡ hash other → lower own ≡ lower other) where
      climb_by : (label : List ℕ) (above front : List (List ℕ)) (o : Option Nsec3Value) → name ≡ front ++ (label ∷ above) → is_in zone.apex above ≡ true
          → own_record hash nsecs above ≡ o → Holds zone name (climb hash nsecs zone.apex above)
          → Holds zone name (unwrap_or (option_map (λ nsec. said_below above nsec (covering_record hash nsecs (label ∷ above))) o) (climb hash nsecs zone.apex above))
      climb_by label above front None is inside found rest = rest
      climb_by label above front (Some nsec) is inside found rest =
          subst (λ (n : List (List ℕ)). Holds zone n (said_below above nsec (covering_record hash nsecs (label ∷ above)))) (sym is)
          (next_holds front label above nsec (covering_record hash nsecs (label ∷ above)) inside (own_holds above nsec (alone (front ++ (label ∷ [])) above (is ∙ sym (append_assoc front (label ∷ []) above))) found) refl)

      climb_holds : (up front : List (List ℕ)) → name ≡ front ++ up → Holds zone name (climb hash nsecs zone.apex up)
      unfolding climb
      climb_holds [] front is = tt
      climb_holds (label ∷ above) front is =
          let split : name ≡ (front ++ (label ∷ [])) ++ above = is ∙ sym (append_assoc front (label ∷ []) above) in
          cond_both (is_in zone.apex above) _ _ (Holds zone name)
          (λ inside. climb_by label above front (own_record hash nsecs above) is inside refl (climb_holds above (front ++ (label ∷ [])) split))
          (λ _. tt)

      whole_by : (o : Option Nsec3Value) → own_record hash nsecs name ≡ o
          → Holds zone name (unwrap_or (option_map (λ nsec. Owns nsec.types) o) (climb hash nsecs zone.apex name))
      whole_by None is = climb_holds name [] refl
      whole_by (Some nsec) is = own_holds name nsec (alone [] name refl) is

      pub hashed_holds : Holds zone name (hashed_existence hash nsecs zone.apex name)
      unfolding hashed_existence
      hashed_holds = whole_by (own_record hash nsecs name) refl

last_more : (name : List (List ℕ)) (labels : ℕ) → labels < length name
    → last_labels name (labels + 1) ≡ get_or name (length name - (labels + 1)) [] ∷ last_labels name labels
last_more name labels below =
    let back : length name - (labels + 1) + 1 ≡ length name - labels = omega arith in
    drop_more name (length name - (labels + 1)) [] (omega arith) ∙ ap (λ n. get_or name (length name - (labels + 1)) [] ∷ drop n name) back

-- ---- the names in question

module _ (hash : List (List ℕ) → List ℕ) (zone : ZoneValue) (name : List (List ℕ)) (alone : IsOneToOne hash zone name) where
  itself_alone : (front other : List (List ℕ)) → name ≡ front ++ other → (own : List (List ℕ)) → HasNsec3 zone own → hash own ≡ hash other → lower own ≡ lower other
  itself_alone front other is own has same = alone own other has (front, other, is, inl refl) same

  wild_alone : (more closest : List (List ℕ)) → name ≡ more ++ closest → (front other : List (List ℕ)) → wildcard ∷ closest ≡ front ++ other
      → (own : List (List ℕ)) → HasNsec3 zone own → hash own ≡ hash other → lower own ≡ lower other
  wild_alone more closest ends [] other is own has same = alone own other has (more, closest, ends, inr (sym is)) same
  wild_alone more closest ends (label ∷ front) other is own has same =
      let rest : closest ≡ front ++ other = ap (drop 1) is in
      itself_alone (more ++ front) other (ends ∙ (ap (λ (ls : List (List ℕ)). more ++ ls) rest ∙ sym (append_assoc more front other))) own has same

pub hashed_sound : HashedDenialsAreSound
hashed_sound hash zone nsecs name code ok all alone =
    denial_is zone ok (hashed_existence hash nsecs zone.apex) name code
    (hashed_holds hash zone nsecs all name (itself_alone hash zone name alone))
    (λ (closest : List (List ℕ)) (missing : IsMissing zone name closest).
    let (more, is) = encloser_last zone name [] in
    hashed_holds hash zone nsecs all (wildcard ∷ closest)
    (wild_alone hash zone name alone more closest (is ∙ ap (λ (ls : List (List ℕ)). more ++ ls) missing.above)))

expanded_at : (hash : List (List ℕ) → List ℕ) (zone : ZoneValue) (nsecs : List Nsec3Value) (name front above : List (List ℕ)) (label : List ℕ) (code : ℕ)
    → IsZone zone → AllByRecursion (IsOfHashedChain hash zone) nsecs → name ≡ front ++ (label ∷ above) → is_in zone.apex above ≡ true
    → HasNsec zone (wildcard ∷ above) → covers_whole (covering_record hash nsecs (label ∷ above)) ≡ true
    → outcome zone name code ≡ Synthesised (owned_by (wildcard ∷ above) zone.records)
expanded_at hash zone nsecs name front above label code ok all is inside has whole =
    let missing = subst (λ (n : List (List ℕ)). IsMissing zone n above) (sym is)
    (expanded_by hash zone nsecs all front label above (covering_record hash nsecs (label ∷ above)) inside has refl whole) in
    let split : name ≡ (front ++ (label ∷ [])) ++ above = is ∙ sym (append_assoc front (label ∷ []) above) in
    let below : is_in above name ≡ true = subst (λ (n : List (List ℕ)). is_in above n ≡ true) (sym split) (in_last (front ++ (label ∷ [])) above) in
    wild_is zone name (wildcard ∷ above) code (missing_is zone name above code (in_trans zone.apex above name inside below) missing)
    (owner_exists (wildcard ∷ above) (wildcard ∷ above) zone.records (in_last [] (wildcard ∷ above)) has.owns)

pub expansions_sound : ExpansionsAreSound
unfolding expands
expansions_sound hash zone nsecs name labels code ok all h has =
    let (less, others) = and_parts (nat_lt labels (length name)) (is_in zone.apex (last_labels name labels)
    && covers_whole (covering_record hash nsecs (last_labels name (labels + 1)))) h in
    let (inside, whole) = and_parts (is_in zone.apex (last_labels name labels)) (covers_whole (covering_record hash nsecs (last_labels name (labels + 1)))) others in
    let below : labels < length name = ltb-true labels (length name) less in
    let next : last_labels name (labels + 1) ≡ get_or name (length name - (labels + 1)) [] ∷ last_labels name labels =
    last_more name labels below in
    expanded_at hash zone nsecs name (take (length name - (labels + 1)) name) (last_labels name labels) (get_or name (length name - (labels + 1)) []) code ok all
    (sym (take-append-drop (length name - (labels + 1)) name) ∙ ap (λ (ls : List (List ℕ)). take (length name - (labels + 1)) name ++ ls) next)
    inside has (subst (λ (ls : List (List ℕ)). covers_whole (covering_record hash nsecs ls) ≡ true) next whole)
