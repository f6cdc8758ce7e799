-- What a server says to a name and a type by its zone alone (RFC 1034, section 4.3.2), without DNSSEC: the sections of the response, and
-- its code.
use Rattle.std.specs.Prelude.{ℕ, zero, suc, ◌+◌, ◌-◌, ◌||◌, min, nat_lt, length, slice_index, Bool, true, false, if◌then◌else◌, List, [], ◌∷◌, ◌++◌, Option, Some, None}
use Rattle.std.specs.Int.{w32, from_be_bytes}
use Rattle.std.specs.List.{filter, list_any}
use Rattle.dns_names_wire.specs.Words.{RecordValue, cname_code, data_octets, dname_code, is_in, is_same, ns_code, soa_code}
use Rattle.ans_store.specs.Zones.{ZoneValue, owned_by}
use Rattle.ans_answer.specs.Outcomes.{ZoneOutcome, Exact, NoName, Outside, Redirect, Referral, Synthesised, is_wanted, kind, outcome}
use Rattle.ans_answer.specs.Targets.{Next, Nowhere, To, TooLong, redirected, renamed}
use Rattle.ans_answer.specs.declared.answer.Rcode.{Rcode}
use Rattle.ans_answer.specs.declared.answer.Rcode.TheVariants.{NoError, NXDomain, Refused, YXDomain}
use Rattle.ans_answer.specs.declared.kind.Kind.{Kind}
use Rattle.ans_answer.specs.declared.kind.Kind.TheVariants.{Alias, NoData, Records}

-- the records of a type among those of a name, and all if all are asked for
unfoldable pub records_of_type : ℕ → List RecordValue → List RecordValue
records_of_type code records = filter (is_wanted code) records

-- Records that a section of a response has.
pub data SectionPart : Type 0 where
  -- records of the zone
  Kept : List RecordValue → SectionPart
  -- records of the zone with this name as owner, which is asked for: they are its own, or those of a wildcard (RFC 4592, section 3.3.1)
  Named : List (List ℕ) → List RecordValue → SectionPart
  -- a CNAME record with this owner and this target, made of a DNAME record, whose TTL it has (RFC 6672, section 3.1)
  Made : List (List ℕ) → List RecordValue → List (List ℕ) → SectionPart
  -- the SOA record, for as long as it denies: its TTL or its minimum, whichever is less (RFC 2308, sections 3 and 5)
  Denying : List RecordValue → SectionPart

-- The minimum is the last field of an SOA record (RFC 1035, section 3.3.13).
abbrev pub minimum_at : List ℕ → ℕ → ℕ
minimum_at octets at =
    from_be_bytes w32 (slice_index octets at ∷ slice_index octets (at + 1) ∷ slice_index octets (at + 2) ∷ slice_index octets (at + 3) ∷ [])

abbrev pub denial_ttl : RecordValue → ℕ
denial_ttl soa =
    if nat_lt (length (data_octets soa)) 4 then soa.ttl else min soa.ttl (minimum_at (data_octets soa) (length (data_octets soa) - 4))

-- What a response says. It has an authority section of one part at most.
pub record ZoneAnswer : Type 0 where
  pub code : Rcode
  -- AA: the zone has authority for the first owner of the answer section, or for what is denied (RFC 1035, section 4.1.1)
  pub authoritative : Bool
  pub answers : List SectionPart
  pub authority : Option SectionPart

-- ---- a name that is no alias

-- nothing more
abbrev pub silent : Rcode → ZoneAnswer
silent code = record { code = code; authoritative = true; answers = []; authority = None }

-- There are no such records, or no such name (RFC 2308, sections 2.1 and 2.2).
abbrev pub denied : ZoneValue → Rcode → ZoneAnswer
denied zone code =
    record { code = code; authoritative = true; answers = []; authority = Some (Denying (records_of_type soa_code (owned_by zone.apex zone.records))) }

-- Others have authority (RFC 1034, section 4.3.2, step 3b).
abbrev pub referred : List RecordValue → ZoneAnswer
referred records = record { code = NoError; authoritative = false; answers = []; authority = Some (Kept (records_of_type ns_code records)) }

abbrev pub answered : List SectionPart → ZoneAnswer
answered parts = record { code = NoError; authoritative = true; answers = parts; authority = None }

-- what records of a name, or of its wildcard, say of a type
abbrev pub by_kind : ZoneValue → List (List ℕ) → ℕ → List RecordValue → Kind → ZoneAnswer
by_kind zone name code records Records = answered (Named name (records_of_type code records) ∷ [])
by_kind zone name code records Alias = silent NoError
by_kind zone name code records NoData = denied zone NoError

-- A name outside the zone, to which an alias leads, is left to who asked.
abbrev pub of_outcome : ZoneValue → List (List ℕ) → ℕ → ZoneOutcome → ZoneAnswer
of_outcome zone name code Outside = silent NoError
of_outcome zone name code (Referral records) = referred records
of_outcome zone name code (Redirect records) = silent NoError
of_outcome zone name code (Exact records) = by_kind zone name code records (kind records code)
of_outcome zone name code (Synthesised records) = by_kind zone name code records (kind records code)
of_outcome zone name code NoName = denied zone NXDomain

-- ---- aliases

-- What a name is.
pub data Lead : Type 0 where
  -- no alias: what the zone says of it
  Stays : ZoneOutcome → Lead
  -- an alias by these CNAME records, and what it leads to
  Cname : List RecordValue → Next → Lead
  -- an alias by these DNAME records of a name above it
  Dname : List RecordValue → Next → Lead

abbrev pub lead_by_kind : ZoneOutcome → List RecordValue → Kind → Lead
lead_by_kind o records Alias = Cname (records_of_type cname_code records) (renamed (records_of_type cname_code records))
lead_by_kind o records Records = Stays o
lead_by_kind o records NoData = Stays o

abbrev pub lead_by : List (List ℕ) → ℕ → ZoneOutcome → Lead
lead_by name code Outside = Stays Outside
lead_by name code (Referral records) = Stays (Referral records)
lead_by name code (Redirect records) = Dname (records_of_type dname_code records) (redirected name (records_of_type dname_code records))
lead_by name code (Exact records) = lead_by_kind (Exact records) records (kind records code)
lead_by name code (Synthesised records) = lead_by_kind (Synthesised records) records (kind records code)
lead_by name code NoName = Stays NoName

unfoldable pub lead : ZoneValue → List (List ℕ) → ℕ → Lead
lead zone name code = lead_by name code (outcome zone name code)

-- What the answer section has of an alias (RFC 1034, section 4.3.2, step 3a; RFC 6672, section 3.2).
abbrev pub links : List (List ℕ) → List RecordValue → Next → List SectionPart
links name records (To next) = Kept records ∷ Made name records next ∷ []
links name records Nowhere = Kept records ∷ []
links name records TooLong = Kept records ∷ []

abbrev pub has_parts : List SectionPart → Bool
has_parts [] = false
has_parts (part ∷ parts) = true

-- A response begins with these parts: if there are some, the zone has authority for the first owner.
abbrev pub begun_with : List SectionPart → ZoneAnswer → ZoneAnswer
begun_with parts a = record { code = a.code; authoritative = has_parts parts || a.authoritative; answers = parts ++ a.answers; authority = a.authority }

-- The name was asked for before: it is one of these.
unfoldable pub is_met : List (List (List ℕ)) → List (List ℕ) → Bool
is_met names name = list_any (λ met. is_same met name) names

-- What is said of what an alias leads to, after these names, by what is said of another name. An alias that leads to a name that was
-- asked for before ends the answer: it is a loop (RFC 1034, section 5.2.2). The code is that of the last name (RFC 6604, section 3), and
-- YXDOMAIN if that is too long (RFC 6672, section 2.2).
abbrev pub led : (List (List (List ℕ)) → List (List ℕ) → ZoneAnswer) → List (List (List ℕ)) → Next → ZoneAnswer
led others names (To next) = if is_met names next then silent NoError else others (names ++ next ∷ []) next
led others names Nowhere = silent NoError
led others names TooLong = silent YXDomain

abbrev pub said : (List (List (List ℕ)) → List (List ℕ) → ZoneAnswer) → ZoneValue → ℕ → List (List (List ℕ)) → List (List ℕ) → Lead → ZoneAnswer
said others zone code names name (Stays o) = of_outcome zone name code o
said others zone code names name (Cname records next) = begun_with (Named name records ∷ []) (led others names next)
said others zone code names name (Dname records next) = begun_with (links name records next) (led others names next)

-- What is said of a name, the last of these that were asked for, if so many aliases are followed at most.
unfoldable pub follow : ZoneValue → ℕ → ℕ → List (List (List ℕ)) → List (List ℕ) → ZoneAnswer
follow zone code zero names name = silent NoError
follow zone code (suc most) names name = said (follow zone code most) zone code names name (lead zone name code)

-- The most aliases that are followed. No RFC has a number; of three servers one follows 5, one 12, and one each.
abbrev pub max_aliases : ℕ
max_aliases = 16

abbrev pub refused : ZoneAnswer
refused = record { code = Refused; authoritative = false; answers = []; authority = None }

-- ---- the answer

-- A name outside the zone is refused (RFC 1035, section 4.1.1).
unfoldable pub answer : ZoneValue → List (List ℕ) → ℕ → ZoneAnswer
answer zone name code = if is_in zone.apex name then follow zone code max_aliases (name ∷ []) name else refused
