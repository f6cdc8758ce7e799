-- What the records of a transfer do.
use Rattle.std.proofs.Common.{◌≡◌, ◌≢◌, ◌++◌, ℕ, Ok, List, [], ◌∷◌, refl, sym, ap, ◌∙◌, append_assoc}
use Rattle.dns_names_wire.specs.Words.{RecordValue}
use Rattle.ans_transfer.specs.Laws.{all_do, steps_do}
use Rattle.ans_transfer.specs.Places.{after_first, at_other, at_soa, by_place, change_at, changes_from, next_place}
use Rattle.ans_transfer.specs.Transfers.{AreChanges, AreOthers, AreSteps, IsChangeStep, IsOther, IsStart, IsWholeZone, RequestValue, StepValue, step_records}
use Rattle.ans_transfer.specs.declared.changes.Change.{Change}
use Rattle.ans_transfer.specs.declared.changes.Change.TheVariants as change
use Rattle.ans_transfer.specs.declared.changes.Changed.{Changed}
use Rattle.ans_transfer.specs.declared.place.Place.{Place}
use Rattle.ans_transfer.specs.declared.place.Place.TheVariants as place
use Rattle.ans_transfer.specs.declared.request.Kind.TheVariants.{Ixfr}
use Rattle.ans_transfer.proofs.Steps.{added_stays, begun_to_deleted, deleted_leads, deleted_stays, last_comes, next_begins, rest_of_steps, step_rest}
use Rattle.ans_transfer.proofs.Moves.{other_does, other_moves, start_does, start_moves}
use Rattle.ans_transfer.proofs.Zones.{begun_leads, begun_other, first_leads, other_stays, zone_leads}

abbrev does : Change → RecordValue → Changed
does what r = record { change = what; item = r }

module _ (asked : RequestValue) where
  soa_does : (p next : Place) (serial : ℕ) (r : RecordValue) (records : List RecordValue) → IsStart asked serial r → at_soa asked.kind p serial ≡ Ok next
      → changes_from asked p (r ∷ records) ≡ does change.Soa r ∷ changes_from asked next records
  soa_does p next serial r records is leads =
      let e : next_place asked p r ≡ next = start_moves asked p r serial next is leads in
      let f : change_at p r ≡ change.Soa = start_does asked p r serial is in
      simp (e, f)

  one_does : (p next : Place) (r : RecordValue) (records : List RecordValue) → IsOther asked r → at_other p ≡ Ok next
      → changes_from asked p (r ∷ records) ≡ does (by_place p) r ∷ changes_from asked next records
  one_does p next r records is leads =
      let e : next_place asked p r ≡ next = other_moves asked p r next is leads in
      let f : change_at p r ≡ by_place p = other_does asked p r is in
      simp (e, f)

  others_do : (p : Place) (others records : List RecordValue) → at_other p ≡ Ok p → AreOthers asked others
      → changes_from asked p (others ++ records) ≡ all_do (by_place p) others ++ changes_from asked p records
  others_do p [] records stays are = refl
  others_do p (r ∷ others) records stays (is, are) =
      one_does p p r (others ++ records) is stays ∙ ap (λ (cs : List Changed). does (by_place p) r ∷ cs) (others_do p others records stays are)

  -- ---- a whole zone

  rest_is_added : (n : ℕ) (others : List RecordValue) (last : RecordValue) → AreOthers asked others → IsStart asked n last
      → changes_from asked (place.Begun n) (others ++ last ∷ []) ≡ all_do change.Add others ++ all_do change.Soa (last ∷ [])
  rest_is_added n [] last are ends = soa_does (place.Begun n) (place.EndOfZone n) n last [] ends (begun_leads asked n)
  rest_is_added n (r ∷ others) last (is, are) ends =
      one_does (place.Begun n) (place.InZone n) r (others ++ last ∷ []) is (begun_other asked n)
      ∙ ap (λ (cs : List Changed). does change.Add r ∷ cs)
      (others_do (place.InZone n) others (last ∷ []) (other_stays asked n) are
      ∙ ap (λ (cs : List Changed). all_do change.Add others ++ cs) (soa_does (place.InZone n) (place.EndOfZone n) n last [] ends (zone_leads asked n)))

  pub zones_are_added : (new : ℕ) (records : List RecordValue) → after_first asked.kind new ≡ place.Begun new → (zone : IsWholeZone asked new records)
      → changes_from asked place.Start records ≡ all_do change.Soa (zone.first ∷ []) ++ (all_do change.Add zone.others ++ all_do change.Soa (zone.last ∷ []))
  zones_are_added new records begins zone =
      ap (changes_from asked place.Start) zone.are
      ∙ (soa_does place.Start (place.Begun new) new zone.first (zone.others ++ zone.last ∷ []) zone.starts (first_leads asked new begins)
      ∙ ap (λ (cs : List Changed). does change.Soa zone.first ∷ cs) (rest_is_added new zone.others zone.last zone.zone zone.ends))

  -- ---- changes

  -- the records of a step after its first
  step_is_done : (n from to : ℕ) (s : StepValue) (records : List RecordValue) → IsChangeStep asked from to s
      → changes_from asked (place.InDeleted n) (s.deleted ++ s.new ∷ (s.added ++ records))
      ≡ all_do change.Delete s.deleted ++ (does change.Soa s.new ∷ (all_do change.Add s.added ++ changes_from asked (place.InAdded n to) records))
  step_is_done n from to s records is =
      others_do (place.InDeleted n) s.deleted (s.new ∷ (s.added ++ records)) (deleted_stays asked n) is.deletes
      ∙ ap (λ (cs : List Changed). all_do change.Delete s.deleted ++ cs)
      (soa_does (place.InDeleted n) (place.InAdded n to) to s.new (s.added ++ records) is.ends (deleted_leads asked n to)
      ∙ ap (λ (cs : List Changed). does change.Soa s.new ∷ cs) (others_do (place.InAdded n to) s.added records (added_stays asked n to) is.adds))

  -- what is done by the rest of a step and those after it
  done_rest : (deleted added left last : List Changed) (new : Changed)
      → deleted ++ new ∷ (added ++ (left ++ last)) ≡ (deleted ++ new ∷ (added ++ left)) ++ last
  done_rest [] added left last new = simp append_assoc
  done_rest (c ∷ deleted) added left last new = ap (λ (cs : List Changed). c ∷ cs) (done_rest deleted added left last new)

  step_then : (n from to : ℕ) (s : StepValue) (steps : List StepValue) (last : RecordValue) → IsChangeStep asked from to s
      → changes_from asked (place.InAdded n to) (rest_of_steps asked steps last) ≡ steps_do steps ++ all_do change.Soa (last ∷ [])
      → changes_from asked (place.InDeleted n) ((s.deleted ++ s.new ∷ (s.added ++ step_records steps)) ++ last ∷ [])
      ≡ (all_do change.Delete s.deleted ++ (does change.Soa s.new ∷ (all_do change.Add s.added ++ steps_do steps))) ++ all_do change.Soa (last ∷ [])
  step_then n from to s steps last is more =
      ap (changes_from asked (place.InDeleted n)) (sym (step_rest asked s.deleted s.added (step_records steps) s.new last))
      ∙ (step_is_done n from to s (rest_of_steps asked steps last) is
      ∙ (ap (λ (cs : List Changed). all_do change.Delete s.deleted ++ (does change.Soa s.new ∷ (all_do change.Add s.added ++ cs))) more
      ∙ done_rest (all_do change.Delete s.deleted) (all_do change.Add s.added) (steps_do steps) (all_do change.Soa (last ∷ [])) (does change.Soa s.new)))

  steps_are_left : (n from : ℕ) (steps : List StepValue) (last : RecordValue) → AreSteps asked from n steps → IsStart asked n last
      → changes_from asked (place.InAdded n from) (rest_of_steps asked steps last) ≡ steps_do steps ++ all_do change.Soa (last ∷ [])
  steps_are_left n from [] last same ends = rw same (soa_does (place.InAdded n n) (place.EndOfChanges n) n last [] ends (last_comes asked n))
  steps_are_left n from (s ∷ steps) last (differs, serial, is, are) ends =
      soa_does (place.InAdded n from) (place.InDeleted n) from s.old ((s.deleted ++ s.new ∷ (s.added ++ step_records steps)) ++ last ∷ []) is.starts (next_begins asked n from differs)
      ∙ ap (λ (cs : List Changed). does change.Soa s.old ∷ cs) (step_then n from serial s steps last is (steps_are_left n serial steps last are ends))

  begun_steps : (n own : ℕ) (steps : List StepValue) (last : RecordValue) → asked.kind ≡ Ixfr own → own ≢ n → AreSteps asked own n steps → IsStart asked n last
      → changes_from asked (place.Begun n) (rest_of_steps asked steps last) ≡ steps_do steps ++ all_do change.Soa (last ∷ [])
  begun_steps n own [] last kind differs same ends = absurd (differs same)
  begun_steps n own (s ∷ steps) last kind differs (other_one, serial, is, are) ends =
      soa_does (place.Begun n) (place.InDeleted n) own s.old ((s.deleted ++ s.new ∷ (s.added ++ step_records steps)) ++ last ∷ []) is.starts (begun_to_deleted asked n own kind differs)
      ∙ ap (λ (cs : List Changed). does change.Soa s.old ∷ cs) (step_then n own serial s steps last is (steps_are_left n serial steps last are ends))

  pub steps_are_done : (own new : ℕ) (records : List RecordValue) → asked.kind ≡ Ixfr own → after_first asked.kind new ≡ place.Begun new → own ≢ new
      → (since : AreChanges asked own new records)
      → changes_from asked place.Start records ≡ all_do change.Soa (since.first ∷ []) ++ (steps_do since.steps ++ all_do change.Soa (since.last ∷ []))
  steps_are_done own new records kind begins differs since =
      ap (changes_from asked place.Start) since.are
      ∙ (soa_does place.Start (place.Begun new) new since.first (rest_of_steps asked since.steps since.last) since.starts (first_leads asked new begins)
      ∙ ap (λ (cs : List Changed). does change.Soa since.first ∷ cs) (begun_steps new own since.steps since.last kind differs since.lead since.ends))
