-- What a response means to who asked (RFC 1034, section 5.3.3): a chain of aliases from the name asked, and what is said of the name
-- at its end.
use Rattle.std.specs.Prelude.{◌==◌, ◌&&◌, ◌||◌, ◌++◌, ◌+◌, ◌-◌, ◌*◌, ◌/◌, ◌%◌, ◌^◌, ℕ, zero, suc, Bool, true, false, not, nat_le, nat_lt, min, is_some, if◌then◌else◌, Option, Some, None, Result, Ok, Err, List, [], ◌∷◌, length, take, find, option_and_then}
use Rattle.dns_names_wire.specs.Words.{MessageValue, QueryValue, RecordValue, any_code, class_code, cname_code, dname_code, encoded_size, is_in, is_same, max_name, ns_code, opts_in, response_code, response_of_code, soa_code, type_code}
use Rattle.dns_names_wire.specs.declared.message.MessageType.{MessageType}
use Rattle.dns_names_wire.specs.declared.message.MessageType.TheVariants.{Query, Response}
use Rattle.ans_response.specs.Counted.{AskedValue, Seen, Targets, counted_records}
use Rattle.ans_response.specs.declared.reason.Reason.{Reason}
use Rattle.ans_response.specs.declared.reason.Reason.TheVariants as reason
use Rattle.ans_response.specs.declared.sought.Sought.{Sought}
use Rattle.ans_response.specs.declared.sought.Sought.TheVariants as sought

-- The zone that says that there is nothing, by its SOA record, and for how long that may be kept.
pub record NegativeValue : Type 0 where
  pub zone : List (List ℕ)
  pub ttl : ℕ

-- What a response means.
pub data Meant : Type 0 where
  -- it is no answer, for this reason
  NoAnswer : Reason → Meant
  -- there are records of the type at this name, the end of the aliases
  Data : List (List ℕ) → Meant
  -- there are none, and the name exists (RFC 2308, section 2.2)
  NoData : List (List ℕ) → Option NegativeValue → Meant
  -- the name does not exist (RFC 2308, section 2.1; of the last name of aliases: RFC 6604, section 3)
  NoName : List (List ℕ) → Option NegativeValue → Meant
  -- servers of the zone with this name know more (RFC 1034, section 4.3.2, step 3b)
  Referral : List (List ℕ) → Meant
  -- aliases lead to this name, which is not in the zone, or of which nothing is said (RFC 1034, section 3.6.2)
  Alias : List (List ℕ) → Meant
  -- the server is no authority for the zone, and knows no other (RFC 1912, section 2.8)
  Lame : Meant

-- ---- records that are sought

-- The name is below this one, and not the same.
unfoldable pub is_strictly_below : List (List ℕ) → List (List ℕ) → Bool
is_strictly_below above name = is_in above name && nat_lt (length above) (length name)

-- The type is asked for: it is the one, or all are asked for (RFC 1035, section 3.2.3).
abbrev pub asks_for : ℕ → ℕ → Bool
asks_for asked code = asked == any_code || code == asked

-- A record with this owner and type is sought at a name: data that are asked for; its CNAME record; a DNAME record of a name above it
-- (RFC 6672, section 2.3); the SOA record of a zone that it is in (RFC 2308, section 3); the NS records of a delegation that it is at or
-- below (RFC 1034, section 4.2.1).
unfoldable pub is_sought_at : AskedValue → List (List ℕ) → Sought → List (List ℕ) → ℕ → Bool
is_sought_at asked name sought.Data owner code = asks_for asked.code code && is_same owner name
is_sought_at asked name sought.Alias owner code = code == cname_code && is_same owner name
is_sought_at asked name sought.AliasAbove owner code = code == dname_code && is_strictly_below owner name
is_sought_at asked name sought.Start owner code = code == soa_code && is_in owner name
is_sought_at asked name sought.Delegation owner code = code == ns_code && (is_strictly_below asked.zone owner && is_in owner name)

-- the first of the records that is sought there
unfoldable pub first : AskedValue → List (List ℕ) → Sought → List Seen → Option Seen
first asked name what records = find (λ s. is_sought_at asked name what s.owner s.code) records

-- ---- aliases

-- the name that DNAME makes of one below its owner, unless it is too long (RFC 6672, section 2.2)
unfoldable pub substituted : List (List ℕ) → List (List ℕ) → List (List ℕ) → Option (List (List ℕ))
substituted owner target name =
    let made = take (length name - length owner) name ++ target in if nat_le (encoded_size made) max_name then Some made else None

unfoldable pub made_name : List (List ℕ) → Seen → Option (List (List ℕ))
made_name name s = option_and_then (λ target. substituted s.owner target name) s.target

-- The CNAME record, if it is there, leads to the name that DNAME makes (RFC 6672, section 3.1).
abbrev pub leads_to : Option (List (List ℕ)) → List (List ℕ) → Bool
leads_to None made = false
leads_to (Some target) made = is_same target made

abbrev pub agrees : Option Seen → List (List ℕ) → Bool
agrees None made = true
agrees (Some cname) made = leads_to cname.target made

abbrev pub by_target : Option (List (List ℕ)) → Result (Option (List (List ℕ))) Reason
by_target None = Err reason.NoTarget
by_target (Some name) = Ok (Some name)

abbrev pub by_made : Option Seen → Option (List (List ℕ)) → Result (Option (List (List ℕ))) Reason
by_made cname None = Err reason.NoTarget
by_made cname (Some made) = if agrees cname made then Ok (Some made) else Err reason.WrongAlias

abbrev pub by_cname : Option Seen → Result (Option (List (List ℕ))) Reason
by_cname None = Ok None
by_cname (Some cname) = by_target cname.target

abbrev pub by_dname : List (List ℕ) → Option Seen → Option Seen → Result (Option (List (List ℕ))) Reason
by_dname name None cname = by_cname cname
by_dname name (Some dname) cname = by_made cname (made_name name dname)

-- the name that a name is an alias of, if it is one
unfoldable pub next_name : AskedValue → List Seen → List (List ℕ) → Result (Option (List (List ℕ))) Reason
next_name asked answers name = by_dname name (first asked name sought.AliasAbove answers) (first asked name sought.Alias answers)

-- ---- the end of the aliases

-- What is heard of a response: the records that count, whether it is said with authority, and that a name does not exist.
pub record Heard : Type 0 where
  pub answers : List Seen
  pub authorities : List Seen
  pub authoritative : Bool
  pub no_name : Bool

-- that there is nothing is kept no longer than the record, and than it says (RFC 2308, section 5)
abbrev pub negative_of : Seen → Option ℕ → Option NegativeValue
negative_of soa None = None
negative_of soa (Some minimum) = Some (record { zone = soa.owner; ttl = min soa.ttl minimum })

unfoldable pub negative : AskedValue → List Seen → List (List ℕ) → Option NegativeValue
negative asked authorities name = option_and_then (λ soa. negative_of soa soa.minimum) (first asked name sought.Start authorities)

-- No SOA record and no delegation: of aliases nothing more is said (RFC 1034, section 5.3.3, step 4c), and else an authority has no data
-- (RFC 2308, section 2.2).
abbrev pub unsaid : Bool → Bool → List (List ℕ) → Meant
unsaid aliased authoritative name = if aliased then Alias name else if authoritative then NoData name None else Lame

-- A delegation tells a referral from no data, if there is no SOA record (RFC 2308, section 2.2.1). An authority refers to nobody; but
-- what it says of authority is of the first name of the aliases (RFC 1035, section 4.1.1).
abbrev pub by_delegation : Bool → Bool → List (List ℕ) → Option Seen → Meant
by_delegation aliased authoritative name None = unsaid aliased authoritative name
by_delegation aliased authoritative name (Some ns) =
    if aliased || not authoritative then Referral ns.owner else unsaid aliased authoritative name

unfoldable pub without_soa : AskedValue → Heard → List (List ℕ) → Meant
without_soa asked heard name =
    by_delegation (not (is_same name asked.name)) heard.authoritative name (first asked name sought.Delegation heard.authorities)

abbrev pub by_negative : AskedValue → Heard → List (List ℕ) → Option NegativeValue → Meant
by_negative asked heard name (Some said) = NoData name (Some said)
by_negative asked heard name None = without_soa asked heard name

-- what is said of a name without data, and that is no alias
unfoldable pub at_last_name : AskedValue → Heard → List (List ℕ) → Meant
at_last_name asked heard name =
    let said = negative asked heard.authorities name in if heard.no_name then NoName name said else by_negative asked heard name said

-- ---- from name to name

-- A response means something by a name, or its meaning is that by another name.
pub data NameStep : Type 0 where
  Means : Meant → NameStep
  On : List (List ℕ) → NameStep

abbrev pub has_data : AskedValue → List Seen → List (List ℕ) → Bool
has_data asked answers name = is_some (first asked name sought.Data answers)

-- Only names of the zone are followed.
abbrev pub on_or_out : AskedValue → List (List ℕ) → NameStep
on_or_out asked next = if is_in asked.zone next then On next else Means (Alias next)

abbrev pub by_next : AskedValue → Heard → List (List ℕ) → Option (List (List ℕ)) → NameStep
by_next asked heard name None = Means (at_last_name asked heard name)
by_next asked heard name (Some next) = on_or_out asked next

abbrev pub by_alias : AskedValue → Heard → List (List ℕ) → Result (Option (List (List ℕ))) Reason → NameStep
by_alias asked heard name (Err why) = Means (NoAnswer why)
by_alias asked heard name (Ok next) = if has_data asked heard.answers name then Means (Data name) else by_next asked heard name next

unfoldable pub step : AskedValue → Heard → List (List ℕ) → NameStep
step asked heard name = by_alias asked heard name (next_name asked heard.answers name)

-- the most aliases that are followed: others, and a loop of them, make no answer (RFC 1034, section 3.6.2)
abbrev pub max_aliases : ℕ
max_aliases = 16

-- what a response means by a name, if so many names may be looked at
unfoldable pub meant_by : ℕ → AskedValue → Heard → List (List ℕ) → Meant
meant_by zero asked heard name = NoAnswer reason.TooManyAliases
meant_by (suc left) asked heard name = elim (step asked heard name) [ Means meant ↦ meant | On next ↦ meant_by left asked heard next ]

-- ---- a response to a question

-- the high bits of the response code (RFC 6891, section 6.1.3)
abbrev pub high_code_bits : List RecordValue → ℕ
high_code_bits [] = 0
high_code_bits (opt ∷ others) = opt.ttl / 2 ^ 24

-- the response code
unfoldable pub whole_code : MessageValue → ℕ
whole_code m = response_code m.header.metadata.response_code % 16 + high_code_bits (opts_in m.additionals) * 16

-- NOERROR and NXDOMAIN (RFC 1035, section 4.1.1): all others are errors
abbrev pub no_error_code : ℕ
no_error_code = 0

abbrev pub no_name_code : ℕ
no_name_code = 3

abbrev pub is_error_code : ℕ → Bool
is_error_code code = not (code == no_error_code || code == no_name_code)

abbrev pub failed : ℕ → Reason
failed code = reason.Failed (response_of_code code)

abbrev pub without_question : ℕ → Reason
without_question response = if is_error_code response then failed response else reason.OtherQuestion

abbrev pub asks : List (List ℕ) → ℕ → QueryValue → Bool
asks name code q = is_same q.name name && type_code q.query_type == code

-- The class of the only question, if it is the one asked (RFC 9619, section 4). A server that can't read a question leaves it out, and
-- reports an error.
unfoldable pub class_asked : ℕ → List (List ℕ) → ℕ → List QueryValue → Result ℕ Reason
class_asked response name code [] = Err (without_question response)
class_asked response name code (q ∷ []) = if asks name code q then Ok (class_code q.query_class) else Err reason.OtherQuestion
class_asked response name code (q ∷ other ∷ queries) = Err reason.OtherQuestion

abbrev pub is_query : MessageType → Bool
is_query Query = true
is_query Response = false

abbrev pub by_class : ℕ → Bool → List (List ℕ) → ℕ → List (List ℕ) → Result ℕ Reason → Result AskedValue Reason
by_class response truncated name code zone (Err why) = Err why
by_class response truncated name code zone (Ok class) =
    if is_error_code response then Err (failed response)
    else if truncated then Err reason.Truncated
    else if is_in zone name then Ok (record { name = name; code = code; class = class; zone = zone })
    else Err reason.OtherZone

-- what a message is a response to, or why it is no answer
unfoldable pub asked_by : MessageValue → List (List ℕ) → ℕ → List (List ℕ) → Result AskedValue Reason
asked_by m name code zone =
    if is_query m.header.metadata.message_type then Err reason.NotAResponse
    else by_class (whole_code m) m.header.metadata.truncation name code zone (class_asked (whole_code m) name code m.queries)

unfoldable pub heard_of : Targets → AskedValue → MessageValue → Heard
heard_of target asked m = record {
  answers = counted_records target asked m.answers;
  authorities = counted_records target asked m.authorities;
  authoritative = m.header.metadata.authoritative;
  no_name = whole_code m == no_name_code;
}

abbrev pub by_checked : Targets → MessageValue → Result AskedValue Reason → Meant
by_checked target m (Err why) = NoAnswer why
by_checked target m (Ok asked) = meant_by (max_aliases + 1) asked (heard_of target asked m) asked.name

-- what a message means to who asked for this name and type, of a server of this zone
unfoldable pub meaning : Targets → MessageValue → List (List ℕ) → ℕ → List (List ℕ) → Meant
meaning target m name code zone = by_checked target m (asked_by m name code zone)
