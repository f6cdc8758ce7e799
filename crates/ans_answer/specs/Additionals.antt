-- Which addresses a response has besides (RFC 1034, section 4.3.2, step 6): those that the zone has of the servers that records name.
use Rattle.std.specs.Prelude.{ℕ, ◌==◌, Bool, if◌then◌else◌, List, [], drop, Option, Some, None}
use Rattle.dns_names_wire.specs.Words.{RecordValue, data_octets, mx_code, ns_code, srv_code, type_code}
use Rattle.ans_store.specs.Zones.{ZoneValue, owned_by}
use Rattle.ans_answer.specs.Answers.{records_of_type}
use Rattle.ans_answer.specs.Outcomes.{ZoneOutcome, Exact, NoName, Outside, Redirect, Referral, Synthesised, outcome}
use Rattle.ans_answer.specs.Targets.{name_in}

-- how many octets of its data are before the server that a record names: NS, MX (RFC 1035, sections 3.3.11 and 3.3.9), SRV (RFC 2782)
abbrev pub before_server : ℕ → Option ℕ
before_server code = if code == ns_code then Some 0 else if code == mx_code then Some 2 else if code == srv_code then Some 6 else None

abbrev pub server_in : List ℕ → Option ℕ → Option (List (List ℕ))
server_in octets None = None
server_in octets (Some count) = name_in (drop count octets)

-- the server that a record names
abbrev pub server : RecordValue → Option (List (List ℕ))
server r = server_in (data_octets r) (before_server (type_code r.record_type))

-- the records that a zone has for a name
abbrev pub said_records : ZoneOutcome → List RecordValue
said_records Outside = []
said_records (Referral records) = []
said_records (Redirect records) = []
said_records (Exact records) = records
said_records (Synthesised records) = records
said_records NoName = []

-- The addresses of a server: those that the zone says of its name, and, if a referral names it, all that the zone has, glue too (RFC 1034,
-- section 4.2.1).
unfoldable pub addresses : ZoneValue → Bool → List (List ℕ) → ℕ → List RecordValue
addresses zone referral name code =
    records_of_type code (if referral then owned_by name zone.records else said_records (outcome zone name code))
