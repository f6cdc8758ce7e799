-- Transfers of changes.
use Rattle.std.proofs.Common.{◌≡◌, ◌≢◌, ◌==◌, ◌++◌, ◌⊎◌, inl, inr, ℕ, Bool, true, false, Result, Ok, Err, List, [], ◌∷◌, refl, sym, ap, ◌∙◌, subst, append_assoc}
use Rattle.dns_names_wire.specs.Words.{RecordValue}
use Rattle.ans_transfer.specs.Places.{after_first, after_second, after_step, at_other, at_soa, is_newer, is_over, passed, passed_one}
use Rattle.ans_transfer.specs.Transfers.{AreChanges, AreOthers, AreSteps, IsOther, IsStart, IsChangeStep, IsWholeZone, RequestValue, StepValue, step_records}
use Rattle.ans_transfer.specs.declared.error.TransferError.{TransferError}
use Rattle.ans_transfer.specs.declared.error.TransferError.TheVariants as error
use Rattle.ans_transfer.specs.declared.place.Place.{Place}
use Rattle.ans_transfer.specs.declared.place.Place.TheVariants as place
use Rattle.ans_transfer.specs.declared.request.Kind.{Kind}
use Rattle.ans_transfer.specs.declared.request.Kind.TheVariants.{Axfr, Ixfr}
use Rattle.ans_transfer.proofs.Moves.{Leads, Passes, no_end, none_after, number_other, number_same, other, other_number, passes, same_after, same_number, start}
use Rattle.ans_transfer.proofs.Zones.{ZoneRest, first_leads, others_pass, start_leads, zone_ends, zone_goes_on, zone_rest}

module _ (asked : RequestValue) where
  -- ---- the rest of changes

  abbrev pub rest_of_steps : List StepValue → RecordValue → List RecordValue
  rest_of_steps steps last = step_records steps ++ last ∷ []

  -- The rest of changes in which a step is adding records, after which the transfer is over.
  pub record AddedRest (n to : ℕ) (q : Place) (records : List RecordValue) : Type 0 where
    pub added : List RecordValue
    pub steps : List StepValue
    pub last : RecordValue
    pub adds : AreOthers asked added
    pub lead : AreSteps asked to n steps
    pub ends : IsStart asked n last
    pub are : records ≡ added ++ rest_of_steps steps last
    pub is : q ≡ place.EndOfChanges n

  -- The rest of changes in which a step is deleting records.
  pub record DeletedRest (n : ℕ) (q : Place) (records : List RecordValue) : Type 0 where
    pub deleted : List RecordValue
    pub new : RecordValue
    pub serial : ℕ
    pub deletes : AreOthers asked deleted
    pub leads : IsStart asked serial new
    pub after : List RecordValue
    pub rest : AddedRest n serial q after
    pub are : records ≡ deleted ++ new ∷ after

  -- the step that is deleting records, from its SOA record
  abbrev step_of : (n : ℕ) (q : Place) (r : RecordValue) (records : List RecordValue) → DeletedRest n q records → StepValue
  step_of n q r records d = record { old = r; deleted = d.deleted; new = d.new; added = d.rest.added }

  is_step : (n from : ℕ) (q : Place) (r : RecordValue) (records : List RecordValue) (d : DeletedRest n q records) → IsStart asked from r
      → IsChangeStep asked from d.serial (step_of n q r records d)
  is_step n from q r records d is = record { starts = is; deletes = d.deletes; ends = d.leads; adds = d.rest.adds }

  are_steps : (n from : ℕ) (q : Place) (r : RecordValue) (records : List RecordValue) (d : DeletedRest n q records) → from ≢ n → IsStart asked from r
      → AreSteps asked from n (step_of n q r records d ∷ d.rest.steps)
  are_steps n from q r records d differs is = (differs, d.serial, is_step n from q r records d is, d.rest.lead)

  -- the records of that step and of those after it
  pub step_rest : (deleted added left : List RecordValue) (new last : RecordValue)
      → deleted ++ new ∷ (added ++ (left ++ last ∷ [])) ≡ (deleted ++ new ∷ (added ++ left)) ++ last ∷ []
  step_rest [] added left new last = simp append_assoc
  step_rest (r ∷ deleted) added left new last = ap (λ (rs : List RecordValue). r ∷ rs) (step_rest deleted added left new last)

  records_are : (n : ℕ) (q : Place) (r : RecordValue) (records : List RecordValue) (d : DeletedRest n q records)
      → r ∷ records ≡ rest_of_steps (step_of n q r records d ∷ d.rest.steps) d.rest.last
  records_are n q r records d =
      ap (λ (rs : List RecordValue). r ∷ rs)
      (d.are ∙ (ap (λ (rs : List RecordValue). d.deleted ++ d.new ∷ rs) d.rest.are ∙ step_rest d.deleted d.rest.added (step_records d.rest.steps) d.new d.rest.last))

  -- ---- what came is changes

  in_deleted_next : (n : ℕ) (next : Place) (r : RecordValue) → Passes asked (place.InDeleted n) next r
      → ((serial : ℕ) × (next ≡ place.InAdded n serial) × IsStart asked serial r) ⊎ ((next ≡ place.InDeleted n) × IsOther asked r)
  unfolding at_soa at_other
  in_deleted_next n next r (start serial is leads) = inl (serial, (cc), is)
  in_deleted_next n next r (other is leads) = inr ((cc), is)

  -- An SOA record ends all, or begins the next step.
  pub data AddedNext (n to : ℕ) (next : Place) (r : RecordValue) : Type 0 where
    it_ends : to ≡ n → next ≡ place.EndOfChanges n → IsStart asked n r → AddedNext n to next r
    it_begins : to ≢ n → next ≡ place.InDeleted n → IsStart asked to r → AddedNext n to next r
    it_adds : next ≡ place.InAdded n to → IsOther asked r → AddedNext n to next r

  after_step_next : (n to serial : ℕ) (next : Place) (r : RecordValue) → IsStart asked serial r → after_step n to serial ≡ Ok next → AddedNext n to next r
  unfolding after_step
  after_step_next n to serial next r is leads = by (serial == to) (to == n) refl refl
    where
      by : (b c : Bool) → (serial == to) ≡ b → (to == n) ≡ c → AddedNext n to next r
      by true true e f =
          let led : Leads (place.EndOfChanges n) next = simp (e, f) at leads in
          let same : serial ≡ n = same_number serial to e ∙ same_number to n f in
          it_ends (same_number to n f) (cc) (subst (λ (s : ℕ). IsStart asked s r) same is)
      by true false e f =
          let led : Leads (place.InDeleted n) next = simp (e, f) at leads in
          it_begins (other_number to n f) (cc) (subst (λ (s : ℕ). IsStart asked s r) (same_number serial to e) is)
      by false c e f = let bad : Err error.OtherSerial ≡ Ok next = simp e at leads in absurd cc

  in_added_next : (n to : ℕ) (next : Place) (r : RecordValue) → Passes asked (place.InAdded n to) next r → AddedNext n to next r
  unfolding at_soa at_other
  in_added_next n to next r (start serial is leads) = after_step_next n to serial next r is leads
  in_added_next n to next r (other is leads) = it_adds (cc) is

  added_ends : (n to : ℕ) (q : Place) (r : RecordValue) (records : List RecordValue) → to ≡ n → IsStart asked n r
      → passed asked (place.EndOfChanges n) records ≡ Ok q → AddedRest n to q (r ∷ records)
  added_ends n to q r records same is h = record {
    added = [];
    steps = [];
    last = r;
    adds = tt;
    lead = same;
    ends = is;
    are = ap (λ (rs : List RecordValue). r ∷ rs) (none_after asked (place.EndOfChanges n) q records refl h);
    is = same_after asked (place.EndOfChanges n) q records refl h;
  }

  step_begins : (n to : ℕ) (q : Place) (r : RecordValue) (records : List RecordValue) → to ≢ n → IsStart asked to r → DeletedRest n q records → AddedRest n to q (r ∷ records)
  step_begins n to q r records differs is d = record {
    added = [];
    steps = step_of n q r records d ∷ d.rest.steps;
    last = d.rest.last;
    adds = tt;
    lead = are_steps n to q r records d differs is;
    ends = d.rest.ends;
    are = records_are n q r records d;
    is = d.rest.is;
  }

  added_goes_on : (n to : ℕ) (q : Place) (r : RecordValue) (records : List RecordValue) → IsOther asked r → AddedRest n to q records → AddedRest n to q (r ∷ records)
  added_goes_on n to q r records is rest = record {
    added = r ∷ rest.added;
    steps = rest.steps;
    last = rest.last;
    adds = (is, rest.adds);
    lead = rest.lead;
    ends = rest.ends;
    are = ap (λ (rs : List RecordValue). r ∷ rs) rest.are;
    is = rest.is;
  }

  new_comes : (n serial : ℕ) (q : Place) (r : RecordValue) (records : List RecordValue) → IsStart asked serial r → AddedRest n serial q records → DeletedRest n q (r ∷ records)
  new_comes n serial q r records is rest = record {
    deleted = [];
    new = r;
    serial = serial;
    deletes = tt;
    leads = is;
    after = records;
    rest = rest;
    are = refl;
  }

  deleted_goes_on : (n : ℕ) (q : Place) (r : RecordValue) (records : List RecordValue) → IsOther asked r → DeletedRest n q records → DeletedRest n q (r ∷ records)
  deleted_goes_on n q r records is d = record {
    deleted = r ∷ d.deleted;
    new = d.new;
    serial = d.serial;
    deletes = (is, d.deletes);
    leads = d.leads;
    after = d.after;
    rest = d.rest;
    are = ap (λ (rs : List RecordValue). r ∷ rs) d.are;
  }

  -- Both rests, of as many records.
  pub record Rests (q : Place) (records : List RecordValue) : Type 0 where
    pub of_deleted : (n : ℕ) → passed asked (place.InDeleted n) records ≡ Ok q → DeletedRest n q records
    pub of_added : (n to : ℕ) → passed asked (place.InAdded n to) records ≡ Ok q → AddedRest n to q records

  deleted_one : (q : Place) (r : RecordValue) (records : List RecordValue) (n : ℕ) → Rests q records
      → passed asked (place.InDeleted n) (r ∷ records) ≡ Ok q → DeletedRest n q (r ∷ records)
  deleted_one q r records n more h = by (passed_one asked (place.InDeleted n) r) refl
    where
      on : (next : Place) → passed asked next records ≡ Ok q
          → ((serial : ℕ) × (next ≡ place.InAdded n serial) × IsStart asked serial r) ⊎ ((next ≡ place.InDeleted n) × IsOther asked r)
          → DeletedRest n q (r ∷ records)
      on next g (inl (serial, same, is)) = new_comes n serial q r records is (more.of_added n serial (rw same at g))
      on next g (inr (same, is)) = deleted_goes_on n q r records is (more.of_deleted n (rw same at g))

      by : (x : Result Place TransferError) → passed_one asked (place.InDeleted n) r ≡ x → DeletedRest n q (r ∷ records)
      by (Err why) e = let bad : Err why ≡ Ok q = rw (e, passed) at h in absurd cc
      by (Ok next) e = on next (rw (e, passed) at h) (in_deleted_next n next r (passes asked (place.InDeleted n) r next e))

  added_one : (q : Place) (r : RecordValue) (records : List RecordValue) (n to : ℕ) → Rests q records
      → passed asked (place.InAdded n to) (r ∷ records) ≡ Ok q → AddedRest n to q (r ∷ records)
  added_one q r records n to more h = by (passed_one asked (place.InAdded n to) r) refl
    where
      on : (next : Place) → passed asked next records ≡ Ok q → AddedNext n to next r → AddedRest n to q (r ∷ records)
      on next g (it_ends same is_end is) = added_ends n to q r records same is (rw is_end at g)
      on next g (it_begins differs is_next is) = step_begins n to q r records differs is (more.of_deleted n (rw is_next at g))
      on next g (it_adds same is) = added_goes_on n to q r records is (more.of_added n to (rw same at g))

      by : (x : Result Place TransferError) → passed_one asked (place.InAdded n to) r ≡ x → AddedRest n to q (r ∷ records)
      by (Err why) e = let bad : Err why ≡ Ok q = rw (e, passed) at h in absurd cc
      by (Ok next) e = on next (rw (e, passed) at h) (in_added_next n to next r (passes asked (place.InAdded n to) r next e))

  pub rests : (q : Place) (records : List RecordValue) → is_over q ≡ true → Rests q records
  rests q [] o = record {
    of_deleted = λ n h. absurd (no_end (place.InDeleted n) q h refl o);
    of_added = λ n to h. absurd (no_end (place.InAdded n to) q h refl o);
  }
  rests q (r ∷ records) o =
      let more : Rests q records = rests q records o in
      record {
        of_deleted = λ n h. deleted_one q r records n more h;
        of_added = λ n to h. added_one q r records n to more h;
      }

  -- ---- what came is a whole zone or changes

  -- What follows the first SOA record, after which the transfer is over.
  pub data BegunRest (n : ℕ) (q : Place) (records : List RecordValue) : Type 0 where
    is_zone : ZoneRest asked n q records → BegunRest n q records
    are_changes : (own : ℕ) (r : RecordValue) (others : List RecordValue) → asked.kind ≡ Ixfr own → own ≢ n → IsStart asked own r
        → records ≡ r ∷ others → DeletedRest n q others → BegunRest n q records

  -- An SOA record after the first one ends a whole zone, or begins the changes.
  pub data SecondNext (kind : Kind) (n serial : ℕ) (next : Place) : Type 0 where
    ends_zone : serial ≡ n → next ≡ place.EndOfZone n → SecondNext kind n serial next
    begins_changes : kind ≡ Ixfr serial → serial ≢ n → next ≡ place.InDeleted n → SecondNext kind n serial next

  second_next : (kind : Kind) (n serial : ℕ) (next : Place) → after_second kind n serial ≡ Ok next → SecondNext kind n serial next
  unfolding after_second
  second_next Axfr n serial next h = by (serial == n) refl
    where
      by : (b : Bool) → (serial == n) ≡ b → SecondNext Axfr n serial next
      by true e = let led : Leads (place.EndOfZone n) next = rw e at h in ends_zone (same_number serial n e) (cc)
      by false e = let bad : Err error.OtherSerial ≡ Ok next = rw e at h in absurd cc
  second_next (Ixfr own) n serial next h = by (serial == n) (serial == own) refl refl
    where
      by : (b c : Bool) → (serial == n) ≡ b → (serial == own) ≡ c → SecondNext (Ixfr own) n serial next
      by true c e f = let led : Leads (place.EndOfZone n) next = simp e at h in ends_zone (same_number serial n e) (cc)
      by false true e f =
          let led : Leads (place.InDeleted n) next = simp (e, f) at h in
          let same : own ≡ serial = sym (same_number serial own f) in
          begins_changes (ap (λ (s : ℕ). Ixfr s) same) (other_number serial n e) (cc)
      by false false e f = let bad : Err error.OtherSerial ≡ Ok next = simp (e, f) at h in absurd cc

  begun_next : (n : ℕ) (q next : Place) (r : RecordValue) (records : List RecordValue) → is_over q ≡ true → Passes asked (place.Begun n) next r
      → passed asked next records ≡ Ok q → BegunRest n q (r ∷ records)
  unfolding at_soa at_other
  begun_next n q next r records o (start serial is leads) h = by (second_next asked.kind n serial next leads)
    where
      by : SecondNext asked.kind n serial next → BegunRest n q (r ∷ records)
      by (ends_zone same led) = is_zone (zone_ends asked n q r records (subst (λ (s : ℕ). IsStart asked s r) same is) (rw led at h))
      by (begins_changes own differs led) = are_changes serial r records own differs is refl ((rests q records o).of_deleted n (rw led at h))
  begun_next n q next r records o (other is leads) h =
      let led : next ≡ place.InZone n = cc in
      is_zone (zone_goes_on asked n q r records is (zone_rest asked n q records o (rw led at h)))

  pub begun_rest : (n : ℕ) (q : Place) (records : List RecordValue) → is_over q ≡ true → passed asked (place.Begun n) records ≡ Ok q → BegunRest n q records
  begun_rest n q [] o h = absurd (no_end (place.Begun n) q h refl o)
  begun_rest n q (r ∷ records) o h = by (passed_one asked (place.Begun n) r) refl
    where
      by : (x : Result Place TransferError) → passed_one asked (place.Begun n) r ≡ x → BegunRest n q (r ∷ records)
      by (Err why) e = let bad : Err why ≡ Ok q = rw (e, passed) at h in absurd cc
      by (Ok next) e = begun_next n q next r records o (passes asked (place.Begun n) r next e) (rw (e, passed) at h)

  -- What came, after which the transfer is over.
  pub data Came (q : Place) (records : List RecordValue) : Type 0 where
    came_nothing : q ≡ place.UpToDate → Came q records
    came_some : (n : ℕ) (r : RecordValue) (others : List RecordValue) → IsStart asked n r → records ≡ r ∷ others → BegunRest n q others → Came q records

  first_next : (kind : Kind) (serial : ℕ) → (after_first kind serial ≡ place.Begun serial) ⊎ (after_first kind serial ≡ place.UpToDate)
  unfolding after_first
  first_next Axfr serial = inl refl
  first_next (Ixfr own) serial = by (is_newer serial own) refl
    where
      by : (b : Bool) → is_newer serial own ≡ b → (after_first (Ixfr own) serial ≡ place.Begun serial) ⊎ (after_first (Ixfr own) serial ≡ place.UpToDate)
      by true e = inl (rw e refl)
      by false e = inr (rw e refl)

  start_next : (q next : Place) (r : RecordValue) (records : List RecordValue) → is_over q ≡ true → Passes asked place.Start next r
      → passed asked next records ≡ Ok q → Came q (r ∷ records)
  unfolding at_soa at_other
  start_next q next r records o (start serial is leads) h = by (first_next asked.kind serial)
    where
      by : (after_first asked.kind serial ≡ place.Begun serial) ⊎ (after_first asked.kind serial ≡ place.UpToDate) → Came q (r ∷ records)
      by (inl begins) =
          let led : next ≡ place.Begun serial = cc in
          came_some serial r records is refl (begun_rest serial q records o (rw led at h))
      by (inr ends) =
          let led : next ≡ place.UpToDate = cc in
          let g : passed asked place.UpToDate records ≡ Ok q = rw led at h in
          came_nothing (same_after asked place.UpToDate q records refl g)
  start_next q next r records o (other is leads) h = let bad : Err error.NoSoa ≡ Ok next = leads in absurd cc

  pub came : (q : Place) (records : List RecordValue) → is_over q ≡ true → passed asked place.Start records ≡ Ok q → Came q records
  came q [] o h = absurd (no_end place.Start q h refl o)
  came q (r ∷ records) o h = by (passed_one asked place.Start r) refl
    where
      by : (x : Result Place TransferError) → passed_one asked place.Start r ≡ x → Came q (r ∷ records)
      by (Err why) e = let bad : Err why ≡ Ok q = rw (e, passed) at h in absurd cc
      by (Ok next) e = start_next q next r records o (passes asked place.Start r next e) (rw (e, passed) at h)

  -- ---- laws

  pub ends_are_zones : (new : ℕ) (records : List RecordValue) → passed asked place.Start records ≡ Ok (place.EndOfZone new) → IsWholeZone asked new records
  ends_are_zones new records h = by (came (place.EndOfZone new) records refl h)
    where
      of_rest : (n : ℕ) (r : RecordValue) (others : List RecordValue) → IsStart asked n r → records ≡ r ∷ others → BegunRest n (place.EndOfZone new) others
          → IsWholeZone asked new records
      of_rest n r others is are (is_zone rest) =
          let e : n ≡ new = let same : place.EndOfZone new ≡ place.EndOfZone n = rest.is in cc in
          record {
            first = r;
            others = rest.others;
            last = rest.last;
            starts = subst (λ (s : ℕ). IsStart asked s r) e is;
            zone = rest.zone;
            ends = subst (λ (s : ℕ). IsStart asked s rest.last) e rest.ends;
            are = are ∙ ap (λ (rs : List RecordValue). r ∷ rs) rest.are;
          }
      of_rest n r others is are (are_changes own s left kind differs at_own split rest) =
          let bad : place.EndOfZone new ≡ place.EndOfChanges n = rest.rest.is in absurd cc

      by : Came (place.EndOfZone new) records → IsWholeZone asked new records
      by (came_nothing bad) = absurd cc
      by (came_some n r others is are rest) = of_rest n r others is are rest

  pub ends_are_changes : (new : ℕ) (records : List RecordValue) → passed asked place.Start records ≡ Ok (place.EndOfChanges new)
      → (own : ℕ) × (asked.kind ≡ Ixfr own) × AreChanges asked own new records
  ends_are_changes new records h = by (came (place.EndOfChanges new) records refl h)
    where
      of_rest : (n : ℕ) (r : RecordValue) (others : List RecordValue) → IsStart asked n r → records ≡ r ∷ others → BegunRest n (place.EndOfChanges new) others
          → (own : ℕ) × (asked.kind ≡ Ixfr own) × AreChanges asked own new records
      of_rest n r others is are (is_zone rest) = let bad : place.EndOfChanges new ≡ place.EndOfZone n = rest.is in absurd cc
      of_rest n r others is are (are_changes own s left kind differs at_own split rest) =
          let e : n ≡ new = let same : place.EndOfChanges new ≡ place.EndOfChanges n = rest.rest.is in cc in
          let all : AreChanges asked own n records = record {
            first = r;
            steps = step_of n (place.EndOfChanges new) s left rest ∷ rest.rest.steps;
            last = rest.rest.last;
            starts = is;
            lead = are_steps n own (place.EndOfChanges new) s left rest differs at_own;
            ends = rest.rest.ends;
            are = are ∙ ap (λ (rs : List RecordValue). r ∷ rs) (split ∙ records_are n (place.EndOfChanges new) s left rest);
          } in
          (own, kind, subst (λ (m : ℕ). AreChanges asked own m records) e all)

      by : Came (place.EndOfChanges new) records → (own : ℕ) × (asked.kind ≡ Ixfr own) × AreChanges asked own new records
      by (came_nothing bad) = absurd cc
      by (came_some n r others is are rest) = of_rest n r others is are rest

  -- ---- changes come

  pub deleted_leads : (n serial : ℕ) → at_soa asked.kind (place.InDeleted n) serial ≡ Ok (place.InAdded n serial)
  unfolding at_soa
  deleted_leads n serial = refl

  pub deleted_stays : (n : ℕ) → at_other (place.InDeleted n) ≡ Ok (place.InDeleted n)
  unfolding at_other
  deleted_stays n = refl

  pub added_stays : (n to : ℕ) → at_other (place.InAdded n to) ≡ Ok (place.InAdded n to)
  unfolding at_other
  added_stays n to = refl

  pub next_begins : (n to : ℕ) → to ≢ n → at_soa asked.kind (place.InAdded n to) to ≡ Ok (place.InDeleted n)
  unfolding at_soa after_step
  next_begins n to differs =
      let e : (to == to) ≡ true = number_same to to refl in
      let f : (to == n) ≡ false = number_other to n differs in
      simp (e, f)

  pub last_comes : (n : ℕ) → at_soa asked.kind (place.InAdded n n) n ≡ Ok (place.EndOfChanges n)
  unfolding at_soa after_step
  last_comes n = let e : (n == n) ≡ true = number_same n n refl in simp e

  -- the records of a step after its first
  step_comes : (n from to : ℕ) (s : StepValue) (records : List RecordValue) → IsChangeStep asked from to s
      → passed asked (place.InDeleted n) (s.deleted ++ s.new ∷ (s.added ++ records)) ≡ passed asked (place.InAdded n to) records
  step_comes n from to s records is =
      others_pass asked (place.InDeleted n) s.deleted (s.new ∷ (s.added ++ records)) (deleted_stays n) is.deletes
      ∙ (start_leads asked (place.InDeleted n) (place.InAdded n to) to s.new (s.added ++ records) is.ends (deleted_leads n to)
      ∙ others_pass asked (place.InAdded n to) s.added records (added_stays n to) is.adds)

  -- what follows the first record of a step
  step_comes_then : (n from to : ℕ) (s : StepValue) (steps : List StepValue) (last : RecordValue) → IsChangeStep asked from to s
      → passed asked (place.InAdded n to) (rest_of_steps steps last) ≡ Ok (place.EndOfChanges n)
      → passed asked (place.InDeleted n) ((s.deleted ++ s.new ∷ (s.added ++ step_records steps)) ++ last ∷ []) ≡ Ok (place.EndOfChanges n)
  step_comes_then n from to s steps last is then_ends =
      ap (passed asked (place.InDeleted n)) (sym (step_rest s.deleted s.added (step_records steps) s.new last))
      ∙ (step_comes n from to s (rest_of_steps steps last) is ∙ then_ends)

  steps_come : (n from : ℕ) (steps : List StepValue) (last : RecordValue) → AreSteps asked from n steps → IsStart asked n last
      → passed asked (place.InAdded n from) (rest_of_steps steps last) ≡ Ok (place.EndOfChanges n)
  steps_come n from [] last same ends = rw same (start_leads asked (place.InAdded n n) (place.EndOfChanges n) n last [] ends (last_comes n))
  steps_come n from (s ∷ steps) last (differs, serial, is, are) ends =
      start_leads asked (place.InAdded n from) (place.InDeleted n) from s.old ((s.deleted ++ s.new ∷ (s.added ++ step_records steps)) ++ last ∷ []) is.starts (next_begins n from differs)
      ∙ step_comes_then n from serial s steps last is (steps_come n serial steps last are ends)

  second_begins : (kind : Kind) (n own : ℕ) → kind ≡ Ixfr own → own ≢ n → after_second kind n own ≡ Ok (place.InDeleted n)
  unfolding after_second
  second_begins Axfr n own h differs = cc
  second_begins (Ixfr theirs) n own h differs =
      let same : own ≡ theirs = cc in
      let e : (own == n) ≡ false = number_other own n differs in
      let f : (own == theirs) ≡ true = number_same own theirs same in
      simp (e, f)

  pub begun_to_deleted : (n own : ℕ) → asked.kind ≡ Ixfr own → own ≢ n → at_soa asked.kind (place.Begun n) own ≡ Ok (place.InDeleted n)
  unfolding at_soa
  begun_to_deleted n own h differs = second_begins asked.kind n own h differs

  changes_come : (n own : ℕ) (steps : List StepValue) (last : RecordValue) → asked.kind ≡ Ixfr own → own ≢ n → AreSteps asked own n steps → IsStart asked n last
      → passed asked (place.Begun n) (step_records steps ++ last ∷ []) ≡ Ok (place.EndOfChanges n)
  changes_come n own [] last kind differs same ends = absurd (differs same)
  changes_come n own (s ∷ steps) last kind differs (other_one, serial, is, are) ends =
      start_leads asked (place.Begun n) (place.InDeleted n) own s.old ((s.deleted ++ s.new ∷ (s.added ++ step_records steps)) ++ last ∷ []) is.starts (begun_to_deleted n own kind differs)
      ∙ step_comes_then n own serial s steps last is (steps_come n serial steps last are ends)

  pub changes_end : (own new : ℕ) (records : List RecordValue) → asked.kind ≡ Ixfr own → after_first asked.kind new ≡ place.Begun new → own ≢ new
      → AreChanges asked own new records → passed asked place.Start records ≡ Ok (place.EndOfChanges new)
  changes_end own new records kind begins differs is =
      ap (passed asked place.Start) is.are
      ∙ (start_leads asked place.Start (place.Begun new) new is.first (step_records is.steps ++ is.last ∷ []) is.starts (first_leads asked new begins)
      ∙ changes_come new own is.steps is.last kind differs is.lead is.ends)
