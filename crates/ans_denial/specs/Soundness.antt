-- What is proved of a zone by NSEC records of its chain is what the zone says. Each is the clause of a public function, and so proved.
use Rattle.std.specs.Prelude.{◌≡◌, ℕ, false, List, ◌∷◌, Some}
use Rattle.std.specs.List.{AllByRecursion}
use Rattle.dns_names_wire.specs.Words.{RecordValue, ds_code, ns_code, wildcard}
use Rattle.ans_store.specs.Zones.{IsZone, ZoneValue, have_type, owned_by}
use Rattle.ans_answer.specs.Outcomes.{Exact, Referral, Synthesised, by_wildcard, kind, outcome}
use Rattle.ans_answer.specs.Outcomes.{NoName as NoSuchName}
use Rattle.ans_answer.specs.declared.kind.Kind.TheVariants.{NoData as NoRecords}
use Rattle.ans_denial.specs.Chains.{IsOfChain}
use Rattle.ans_denial.specs.Denials.{denies, proved_encloser}
use Rattle.ans_denial.specs.Nsecs.{NsecValue}
use Rattle.ans_denial.specs.declared.denial.Denial.{Denial}
use Rattle.ans_denial.specs.declared.denial.Denial.TheVariants.{Insecure, NoData, NoName, NoWildcardData, Nothing}
use Rattle.ans_denial.specs.declared.denial.Reason.{Reason}
use Rattle.ans_denial.specs.declared.denial.Reason.TheVariants.{OptOut}

-- What remains true if nothing is proved: where delegations may be left out (RFC 5155, section 6), one that the name is sent to has no DS
-- records.
abbrev pub Remains : ZoneValue → List (List ℕ) → Reason → Type 0
Remains zone name OptOut = (code : ℕ) (records : List RecordValue) → outcome zone name code ≡ Referral records → have_type ds_code records ≡ false
Remains zone name reason = Unit {0}

-- The zone says of a name and a type what the denial says: that there is no such name; that it exists, or a wildcard stands for it,
-- and there are no records of the type; that it is a delegation without DS records.
abbrev pub ZoneSays : ZoneValue → List (List ℕ) → ℕ → Denial → Type 0
ZoneSays zone name code NoName = outcome zone name code ≡ NoSuchName
ZoneSays zone name code NoData = (outcome zone name code ≡ Exact (owned_by name zone.records)) × (kind (owned_by name zone.records) code ≡ NoRecords)
ZoneSays zone name code NoWildcardData =
    (wild : List (List ℕ)) × (outcome zone name code ≡ Synthesised (owned_by wild zone.records)) × (kind (owned_by wild zone.records) code ≡ NoRecords)
ZoneSays zone name code Insecure =
    (outcome zone name ns_code ≡ Referral (owned_by name zone.records)) × (have_type ds_code (owned_by name zone.records) ≡ false)
ZoneSays zone name code (Nothing reason) = Remains zone name reason

-- Whatever records of a zone's chain are given, what they prove is so.
abbrev pub DenialsAreSound : Type 0
DenialsAreSound =
    (zone : ZoneValue) (nsecs : List NsecValue) (name : List (List ℕ)) (code : ℕ) → IsZone zone → AllByRecursion (IsOfChain zone) nsecs
    → ZoneSays zone name code (denies nsecs name code zone.apex)

-- A closest encloser that is proved is the one whose wildcard stands for the name, whatever type is asked.
abbrev pub EnclosersAreSound : Type 0
EnclosersAreSound =
    (zone : ZoneValue) (nsecs : List NsecValue) (name closest : List (List ℕ)) (code : ℕ) → IsZone zone → AllByRecursion (IsOfChain zone) nsecs
    → proved_encloser nsecs name zone.apex ≡ Some closest → outcome zone name code ≡ by_wildcard zone (wildcard ∷ closest)
