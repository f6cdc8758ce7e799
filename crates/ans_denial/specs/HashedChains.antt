-- The NSEC3 records that a zone has (RFC 5155, section 7.1). The zone is taken without them and their signatures: the names that own them
-- exist for nobody who asks (RFC 5155, section 7.2.8).
use Rattle.std.specs.Prelude.{◌≡◌, ◌⊎◌, ℕ, true, false, List, ◌∷◌, ◌++◌, None}
use Rattle.std.specs.List.{AllByRecursion}
use Rattle.dns_names_wire.specs.Words.{ds_code, is_in, lower, rrsig_code, wildcard}
use Rattle.ans_store.specs.Zones.{IsZone, ZoneValue, have_type, name_exists, owned_by}
use Rattle.ans_answer.specs.Outcomes.{Synthesised, is_delegation, outcome, sent_above}
use Rattle.ans_denial.specs.Chains.{HasNsec, is_due}
use Rattle.ans_denial.specs.Denials.{denied_by}
use Rattle.ans_denial.specs.Hashes.{Nsec3Value, covers_hash, expands, hashed_existence}
use Rattle.ans_denial.specs.Nsecs.{lists}
use Rattle.ans_denial.specs.Seen.{last_labels}
use Rattle.ans_denial.specs.Soundness.{ZoneSays}

-- A name has an NSEC3 record if it exists in the zone and no name above sends it away. So names without records have one, too.
pub record HasNsec3 (zone : ZoneValue) (name : List (List ℕ)) : Type 0 where
  pub inside : is_in zone.apex name ≡ true
  pub there : name_exists name zone.records ≡ true
  pub not_sent : sent_above zone name ≡ None

-- It may be left out where the record that covers it says so, if it is a delegation without DS records, or exists for those below it alone
-- (RFC 5155, section 6).
abbrev pub MayBeLeftOut : ZoneValue → List (List ℕ) → Type 0
MayBeLeftOut zone name =
    (owner : List (List ℕ)) → HasNsec zone owner → is_in name owner ≡ true
    → (is_delegation zone owner ≡ true) × (have_type ds_code (owned_by owner zone.records) ≡ false)

-- The record is that of a name which has one. Of the names whose hashes it covers, none has one, but for those that may be left out.
pub record IsOfHashedChain (hash : List (List ℕ) → List ℕ) (zone : ZoneValue) (nsec : Nsec3Value) : Type 0 where
  pub name : List (List ℕ)
  pub has : HasNsec3 zone name
  pub own : nsec.own ≡ hash name
  pub nearest : (other : List (List ℕ)) → HasNsec3 zone other → covers_hash (hash other) nsec ≡ true → (nsec.opt_out ≡ true) × MayBeLeftOut zone other
  pub all : (code : ℕ) → is_due zone name code ≡ true → lists nsec.types code ≡ true
  pub only : (code : ℕ) → lists nsec.types code ≡ true → (is_due zone name code ≡ true) ⊎ (code ≡ rrsig_code)

-- ---- soundness

-- The names that are hashed to deny a name: it and those above it, and their wildcards.
abbrev pub IsHashedFor : List (List ℕ) → List (List ℕ) → Type 0
IsHashedFor name other =
    (front : List (List ℕ)) × (above : List (List ℕ)) × (name ≡ front ++ above) × ((other ≡ above) ⊎ (other ≡ wildcard ∷ above))

-- No name of the zone has the hash of another that is hashed.
abbrev pub IsOneToOne : (List (List ℕ) → List ℕ) → ZoneValue → List (List ℕ) → Type 0
IsOneToOne hash zone name =
    (own other : List (List ℕ)) → HasNsec3 zone own → IsHashedFor name other → hash own ≡ hash other → lower own ≡ lower other

-- Whatever records of a zone's chain are given, what they prove is so, if the hash is one-to-one on the names in question.
abbrev pub HashedDenialsAreSound : Type 0
HashedDenialsAreSound =
    (hash : List (List ℕ) → List ℕ) (zone : ZoneValue) (nsecs : List Nsec3Value) (name : List (List ℕ)) (code : ℕ) → IsZone zone
    → AllByRecursion (IsOfHashedChain hash zone) nsecs → IsOneToOne hash zone name
    → ZoneSays zone name code (denied_by (hashed_existence hash nsecs zone.apex) name code zone.apex)

-- The answer of a wildcard that the zone has is the one for the name, if the records say that no name nearer exists.
abbrev pub ExpansionsAreSound : Type 0
ExpansionsAreSound =
    (hash : List (List ℕ) → List ℕ) (zone : ZoneValue) (nsecs : List Nsec3Value) (name : List (List ℕ)) (labels code : ℕ) → IsZone zone
    → AllByRecursion (IsOfHashedChain hash zone) nsecs → expands hash nsecs zone.apex name labels ≡ true
    → HasNsec zone (wildcard ∷ last_labels name labels)
    → outcome zone name code ≡ Synthesised (owned_by (wildcard ∷ last_labels name labels) zone.records)
