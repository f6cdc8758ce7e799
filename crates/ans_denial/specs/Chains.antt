-- The NSEC records that a zone has (RFC 4034, section 4.1; RFC 4035, section 2.3).
use Rattle.std.specs.Prelude.{◌≡◌, ◌==◌, ◌&&◌, ◌||◌, ℕ, Bool, true, false, not, List, None}
use Rattle.std.specs.List.{AllByRecursion, list_any}
use Rattle.std.specs.List.Sorted.{IsStrictlySortedBy}
use Rattle.std.specs.Ordering.{is_lt, on}
use Rattle.dns_names_wire.specs.Words.{ds_code, is_same, labels_cmp, ns_code, nsec_code, rrsig_code}
use Rattle.ans_store.specs.Zones.{ZoneValue, have_type, owned_by}
use Rattle.ans_answer.specs.Outcomes.{is_delegation, sent_above}
use Rattle.ans_denial.specs.Nsecs.{NsecValue, covers, lists}

-- A name has an NSEC record if it owns records and no name above sends it away. So a delegation has one, and what is below it has none.
pub record HasNsec (zone : ZoneValue) (name : List (List ℕ)) : Type 0 where
  pub owns : list_any (λ r. is_same r.owner name) zone.records ≡ true
  pub not_sent : sent_above zone name ≡ None

-- The zone has authoritative records of the type at the name: at a delegation, but for NS, only those that are the parent's (RFC 4035,
-- section 2.3).
unfoldable pub is_due : ZoneValue → List (List ℕ) → ℕ → Bool
is_due zone name code =
    have_type code (owned_by name zone.records) && (not (is_delegation zone name) || (code == ns_code || code == ds_code))

-- Such a type is listed, and so are NSEC and RRSIG, for the record itself and for its signature.
unfoldable pub is_type_listed : ZoneValue → List (List ℕ) → ℕ → Bool
is_type_listed zone name code = is_due zone name code || (code == nsec_code || code == rrsig_code)

-- The record is that of a name which has one, its next name is the nearest one after it that has one, and after the last one is the
-- apex.
pub record IsOfChain (zone : ZoneValue) (nsec : NsecValue) : Type 0 where
  pub owner : HasNsec zone nsec.owner
  pub next : HasNsec zone nsec.next
  pub nearest : (name : List (List ℕ)) → HasNsec zone name → covers nsec name ≡ false
  pub last : is_lt (labels_cmp nsec.owner nsec.next) ≡ false → is_same nsec.next zone.apex ≡ true
  pub types : (code : ℕ) → lists nsec.types code ≡ is_type_listed zone nsec.owner code

-- The records are the zone's: one for each name that has one, in canonical order.
pub record IsChain (zone : ZoneValue) (nsecs : List NsecValue) : Type 0 where
  pub each : AllByRecursion (IsOfChain zone) nsecs
  pub every : (name : List (List ℕ)) → HasNsec zone name → list_any (λ nsec. is_same nsec.owner name) nsecs ≡ true
  pub in_order : IsStrictlySortedBy (on (λ nsec. nsec.owner) labels_cmp) nsecs
