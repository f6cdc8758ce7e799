-- Where the way down from the apex of a zone to a name leads.
use Rattle.std.specs.Prelude.{◌≡◌, ◌+◌, ◌-◌, ◌<◌, ◌≤◌, ℕ, false, List, length, drop, Some, None}
use Rattle.ans_store.specs.Zones.{ZoneValue, name_exists}
use Rattle.ans_answer.specs.Outcomes.{encloser, sent_above}
use Rattle.ans_answer.specs.Seen.{HasRecords, outcome_seen}
use Rattle.ans_answer.specs.declared.outcome.Way.{Way}
use Rattle.ans_answer.specs.declared.outcome.Way.TheVariants.{Ends, Sent}

-- No name above this one sends it away. If it does not exist, the closest encloser has one label less than this count.
pub record EndsDown (zone : ZoneValue) (name : List (List ℕ)) (count : ℕ) : Type 0 where
  pub within : count ≤ length name
  pub not_sent : sent_above zone name ≡ None
  pub below : name_exists name zone.records ≡ false → 0 < count
  pub closest : name_exists name zone.records ≡ false → encloser zone name ≡ drop (length name - count + 1) name

abbrev pub IsWay : ZoneValue → List (List ℕ) → Way → Type 0
IsWay zone name (Sent outcome) = (sent_above zone name ≡ Some (outcome_seen zone.records outcome)) × HasRecords zone.records outcome
IsWay zone name (Ends count) = EndsDown zone name count
