-- What follows from the definitions of transfers. Each is the clause of a public function, and so proved.
use Rattle.std.specs.Prelude.{◌≡◌, ◌≢◌, ℕ, Result, Ok, Err, List, [], ◌∷◌, ◌++◌, map}
use Rattle.dns_names_wire.specs.Words.{MessageValue, RecordValue}
use Rattle.ans_transfer.specs.Places.{after_first, all_taken, changes_from, passed}
use Rattle.ans_transfer.specs.Transfers.{AreChanges, IsWholeZone, RequestValue, StepValue}
use Rattle.ans_transfer.specs.declared.changes.Change.{Change}
use Rattle.ans_transfer.specs.declared.changes.Change.TheVariants as change
use Rattle.ans_transfer.specs.declared.changes.Changed.{Changed}
use Rattle.ans_transfer.specs.declared.error.TransferError.{TransferError}
use Rattle.ans_transfer.specs.declared.place.Place.{Place}
use Rattle.ans_transfer.specs.declared.place.Place.TheVariants as place
use Rattle.ans_transfer.specs.declared.request.Kind.TheVariants.{Ixfr}

-- the answers of messages, one after another
abbrev pub all_answers : List MessageValue → List RecordValue
all_answers [] = []
all_answers (m ∷ messages) = m.answers ++ all_answers messages

-- How the records are split into messages makes no difference.
abbrev pub SplitsDontMatter : Type 0
SplitsDontMatter = (asked : RequestValue) (p q : Place) (messages : List MessageValue)
    → all_taken asked p messages ≡ Ok q → passed asked p (all_answers messages) ≡ Ok q

-- A transfer that ends with a whole zone is one.
abbrev pub EndsAreZones : Type 0
EndsAreZones = (asked : RequestValue) (new : ℕ) (records : List RecordValue)
    → passed asked place.Start records ≡ Ok (place.EndOfZone new) → IsWholeZone asked new records

-- A whole zone is taken up to its end, if it is not the client's version or an older one.
abbrev pub ZonesEnd : Type 0
ZonesEnd = (asked : RequestValue) (new : ℕ) (records : List RecordValue)
    → after_first asked.kind new ≡ place.Begun new → IsWholeZone asked new records → passed asked place.Start records ≡ Ok (place.EndOfZone new)

-- A transfer that ends with changes is the changes since the client's version.
abbrev pub EndsAreChanges : Type 0
EndsAreChanges = (asked : RequestValue) (new : ℕ) (records : List RecordValue)
    → passed asked place.Start records ≡ Ok (place.EndOfChanges new) → (own : ℕ) × (asked.kind ≡ Ixfr own) × AreChanges asked own new records

-- The changes since the client's version are taken up to their end.
abbrev pub ChangesEnd : Type 0
ChangesEnd = (asked : RequestValue) (own new : ℕ) (records : List RecordValue)
    → asked.kind ≡ Ixfr own → after_first asked.kind new ≡ place.Begun new → own ≢ new
    → AreChanges asked own new records → passed asked place.Start records ≡ Ok (place.EndOfChanges new)

-- Each record does something, in turn.
abbrev pub AllDoSomething : Type 0
AllDoSomething = (asked : RequestValue) (p : Place) (records : List RecordValue) → map (λ (c : Changed). c.item) (changes_from asked p records) ≡ records

-- each of these records does this
abbrev pub all_do : Change → List RecordValue → List Changed
all_do what records = map (λ (r : RecordValue). record { change = what; item = r }) records

-- The other records of a whole zone are added.
abbrev pub ZonesAreAdded : Type 0
ZonesAreAdded = (asked : RequestValue) (new : ℕ) (records : List RecordValue) → after_first asked.kind new ≡ place.Begun new
    → (zone : IsWholeZone asked new records)
    → changes_from asked place.Start records ≡ all_do change.Soa (zone.first ∷ []) ++ (all_do change.Add zone.others ++ all_do change.Soa (zone.last ∷ []))

-- what the records of steps do
abbrev pub steps_do : List StepValue → List Changed
steps_do [] = []
steps_do (s ∷ steps) =
    all_do change.Soa (s.old ∷ []) ++ (all_do change.Delete s.deleted ++ (all_do change.Soa (s.new ∷ []) ++ (all_do change.Add s.added ++ steps_do steps)))

-- The records that a step deletes are deleted, and those that it adds are added.
abbrev pub StepsAreDone : Type 0
StepsAreDone = (asked : RequestValue) (own new : ℕ) (records : List RecordValue)
    → asked.kind ≡ Ixfr own → after_first asked.kind new ≡ place.Begun new → own ≢ new → (since : AreChanges asked own new records)
    → changes_from asked place.Start records ≡ all_do change.Soa (since.first ∷ []) ++ (steps_do since.steps ++ all_do change.Soa (since.last ∷ []))
