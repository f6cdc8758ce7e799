-- What a zone says of a name and a type (RFC 1034, section 4.3.2; RFC 2181, section 6; RFC 4592; RFC 6672), by the list of its records.
use Rattle.std.specs.Prelude.{◌==◌, ◌&&◌, ◌||◌, ℕ, Bool, not, nat_le, if◌then◌else◌, unwrap_or, List, [], ◌∷◌, length, Option, Some, None}
use Rattle.std.specs.List.{list_any}
use Rattle.std.specs.Option.{option_or}
use Rattle.dns_names_wire.specs.Words.{RecordValue, any_code, cname_code, dname_code, ds_code, is_in, is_same, ns_code, type_code, wildcard}
use Rattle.ans_store.specs.Zones.{ZoneValue, name_exists, have_type, owned_by}
use Rattle.ans_answer.specs.declared.kind.Kind.{Kind}
use Rattle.ans_answer.specs.declared.kind.Kind.TheVariants.{Alias, NoData, Records}

-- What a zone says of a name: where the name leads to, and the records that are owned there.
pub data ZoneOutcome : Type 0 where
  -- the name is not in the zone
  Outside : ZoneOutcome
  -- it is that of a delegation, or below it: the records of the delegation's name
  Referral : List RecordValue → ZoneOutcome
  -- a name above it has a DNAME record: the records of that name
  Redirect : List RecordValue → ZoneOutcome
  -- it exists: its records, of which there may be none
  Exact : List RecordValue → ZoneOutcome
  -- it does not, and a wildcard stands for it: the wildcard's records
  Synthesised : List RecordValue → ZoneOutcome
  -- it does not exist
  NoName : ZoneOutcome

-- ---- what is above a name

-- A name is that of a delegation if it is not the apex and owns NS records (RFC 1034, section 4.2.1).
unfoldable pub is_delegation : ZoneValue → List (List ℕ) → Bool
is_delegation zone name = not (is_same name zone.apex) && have_type ns_code (owned_by name zone.records)

-- what the names below this one are sent to: a delegation, and else a DNAME record (RFC 6672, section 2.3)
unfoldable pub sent_at : ZoneValue → List (List ℕ) → Option ZoneOutcome
sent_at zone name =
    if is_delegation zone name then Some (Referral (owned_by name zone.records))
    else if have_type dname_code (owned_by name zone.records) then Some (Redirect (owned_by name zone.records)) else None

-- what a name is sent to by those above it: by the first that does so, on the way down from the apex (RFC 1034, section 4.3.2, step 3)
unfoldable pub sent_above : ZoneValue → List (List ℕ) → Option ZoneOutcome
sent_above zone [] = None
sent_above zone (label ∷ above) =
    if nat_le (length zone.apex) (length above) then option_or (sent_above zone above) (sent_at zone above) else None

-- ---- names that do not exist

-- the closest encloser: the longest name at or above this one that exists (RFC 4592, section 3.3.1)
unfoldable pub encloser : ZoneValue → List (List ℕ) → List (List ℕ)
encloser zone [] = []
encloser zone (label ∷ above) = if name_exists (label ∷ above) zone.records then label ∷ above else encloser zone above

-- the wildcard that stands for names below the closest encloser (RFC 4592, section 3.3.1)
unfoldable pub source : ZoneValue → List (List ℕ) → List (List ℕ)
source zone name = wildcard ∷ encloser zone name

unfoldable pub by_wildcard : ZoneValue → List (List ℕ) → ZoneOutcome
by_wildcard zone wild = if name_exists wild zone.records then Synthesised (owned_by wild zone.records) else NoName

-- ---- the outcome

-- A delegation sends its own name away too, but not if DS is asked: that is the parent's (RFC 4035, section 3.1.4.1).
unfoldable pub is_sent : ZoneValue → List (List ℕ) → ℕ → Bool
is_sent zone name code = is_delegation zone name && not (code == ds_code)

-- what a name itself says, if none above it sends it away
unfoldable pub itself : ZoneValue → List (List ℕ) → ℕ → ZoneOutcome
itself zone name code =
    if is_sent zone name code then Referral (owned_by name zone.records)
    else if name_exists name zone.records then Exact (owned_by name zone.records) else by_wildcard zone (source zone name)

unfoldable pub outcome : ZoneValue → List (List ℕ) → ℕ → ZoneOutcome
outcome zone name code = if is_in zone.apex name then unwrap_or (sent_above zone name) (itself zone name code) else Outside

-- ---- what the records of a name say of a type

-- The record is asked for: it has the type, or all are asked for (RFC 1035, section 3.2.3).
abbrev pub is_wanted : ℕ → RecordValue → Bool
is_wanted code r = code == any_code || type_code r.record_type == code

-- There are records of the type; or there are none, and the name is an alias (RFC 1034, section 3.6.2); or neither.
unfoldable pub kind : List RecordValue → ℕ → Kind
kind records code = if list_any (is_wanted code) records then Records else if have_type cname_code records then Alias else NoData
