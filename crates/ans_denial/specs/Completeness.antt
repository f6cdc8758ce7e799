-- What NSEC records are enough to deny a name, and that they then prove what the zone says (RFC 4035, section 3.1.3). Each is the clause of a
-- public function, and so proved.
use Rattle.std.specs.Prelude.{◌≡◌, ◌==◌, ◌&&◌, ◌||◌, ℕ, Bool, true, false, if◌then◌else◌, List}
use Rattle.std.specs.List.{AllByRecursion, list_any}
use Rattle.dns_names_wire.specs.Words.{any_code, ds_code, is_same, nsec_code, rrsig_code, soa_code}
use Rattle.ans_store.specs.Zones.{IsZone, ZoneValue, have_type, name_exists, owned_by}
use Rattle.ans_answer.specs.Outcomes.{ZoneOutcome, Exact, Outside, Redirect, Referral, Synthesised, is_delegation, kind, outcome, source}
use Rattle.ans_answer.specs.Outcomes.{NoName as NoSuchName}
use Rattle.ans_answer.specs.declared.kind.Kind.TheVariants.{NoData as NoRecords}
use Rattle.ans_denial.specs.Chains.{IsChain, IsOfChain}
use Rattle.ans_denial.specs.Denials.{denies}
use Rattle.ans_denial.specs.Nsecs.{NsecValue, covers}
use Rattle.ans_denial.specs.declared.denial.Denial.{Denial}
use Rattle.ans_denial.specs.declared.denial.Denial.TheVariants.{Insecure, NoData, NoName, NoWildcardData}

-- The record is the name's, or covers it.
unfoldable pub speaks_of : List (List ℕ) → NsecValue → Bool
speaks_of name nsec = is_same nsec.owner name || covers nsec name

-- Records of the chain are enough for a name: one speaks of it, and, if it does not exist, one of the wildcard that would stand for it. It
-- may be the same one.
pub record AreEnough (zone : ZoneValue) (nsecs : List NsecValue) (name : List (List ℕ)) : Type 0 where
  pub each : AllByRecursion (IsOfChain zone) nsecs
  pub own : list_any (speaks_of name) nsecs ≡ true
  pub wild : name_exists name zone.records ≡ false → list_any (speaks_of (source zone name)) nsecs ≡ true

-- What a zone does not have of the type, an NSEC record of the name can say: so it is with each type but ANY, which is none; NSEC and RRSIG,
-- which each record lists; and DS at an apex, which the parent has (RFC 4035, section 2.4).
pub record IsDeniable (zone : ZoneValue) (name : List (List ℕ)) (code : ℕ) : Type 0 where
  pub not_any : (code == any_code) ≡ false
  pub not_own : (code == nsec_code || code == rrsig_code) ≡ false
  pub not_apex : (have_type soa_code (owned_by name zone.records) && code == ds_code) ≡ false

-- Where the zone has no records of the type, a denial proves so, whatever else the zone says of the name: that it does not exist; that it has
-- other records or none, or is a delegation without DS records; or that a wildcard has others, which is no delegation.
abbrev pub DeniesWhatIsSaid : ZoneValue → List (List ℕ) → ℕ → ZoneOutcome → Denial → Type 0
DeniesWhatIsSaid zone name code NoSuchName denial = denial ≡ NoName
DeniesWhatIsSaid zone name code (Exact records) denial =
    kind records code ≡ NoRecords → denial ≡ (if is_delegation zone name then Insecure else NoData)
DeniesWhatIsSaid zone name code (Synthesised records) denial =
    kind records code ≡ NoRecords → is_delegation zone (source zone name) ≡ false → denial ≡ NoWildcardData
DeniesWhatIsSaid zone name code (Referral records) denial = Unit {0}
DeniesWhatIsSaid zone name code (Redirect records) denial = Unit {0}
DeniesWhatIsSaid zone name code Outside denial = Unit {0}

-- The zone itself says it: no name above sends the name away, and it is in the zone.
abbrev pub IsSaidHere : ZoneOutcome → Type 0
IsSaidHere (Exact records) = Unit {0}
IsSaidHere (Synthesised records) = Unit {0}
IsSaidHere NoSuchName = Unit {0}
IsSaidHere o = ⊥

-- For each name of which the zone itself says something, its whole chain is enough.
abbrev pub ChainsAreEnough : Type 0
ChainsAreEnough =
    (zone : ZoneValue) (nsecs : List NsecValue) (name : List (List ℕ)) (code : ℕ) → IsZone zone → IsChain zone nsecs
    → IsSaidHere (outcome zone name code) → AreEnough zone nsecs name

-- Whatever records are enough for a name prove what the zone says.
abbrev pub DenialsAreComplete : Type 0
DenialsAreComplete =
    (zone : ZoneValue) (nsecs : List NsecValue) (name : List (List ℕ)) (code : ℕ) → IsZone zone → AreEnough zone nsecs name
    → IsDeniable zone name code → IsDeniable zone (source zone name) code
    → DeniesWhatIsSaid zone name code (outcome zone name code) (denies nsecs name code zone.apex)
