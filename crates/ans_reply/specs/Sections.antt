-- The records of a reply, section by section (RFC 1034, section 4.3.2), by what the zone says.
use Rattle.std.specs.Prelude.{ℕ, ◌==◌, ◌&&◌, Bool, true, false, if◌then◌else◌, List, [], ◌∷◌, ◌++◌, map, slice_get, Option, Some, None}
use Rattle.std.specs.List.{flat_map, list_any}
use Rattle.std.specs.Option.{option_to_list}
use Rattle.dns_names_wire.specs.Words.{RecordValue, a_code, aaaa_code, any_code, class_code, cname_code, data_octets, dname_code, is_same, type_code, wire}
use Rattle.ans_store.specs.Zones.{ZoneValue}
use Rattle.ans_answer.specs.Additionals.{addresses, server}
use Rattle.ans_answer.specs.Answers.{SectionPart, Denying, Kept, Made, Named, ZoneAnswer, denial_ttl, is_met}

-- A record of a reply: its type and its class by their codes.
pub record ReplyRecord : Type 0 where
  pub owner : List (List ℕ)
  pub code : ℕ
  pub class : ℕ
  pub ttl : ℕ
  pub octets : List ℕ

-- ---- records by what they are of

-- a record of the zone, with another owner and another time to live
abbrev pub sent_as : List (List ℕ) → ℕ → RecordValue → ReplyRecord
sent_as name ttl r = record { owner = name; code = type_code r.record_type; class = class_code r.class; ttl = ttl; octets = data_octets r }

-- a CNAME record that is made of a DNAME record, whose class and time to live it has (RFC 6672, section 3.1)
abbrev pub made_alias : List (List ℕ) → List (List ℕ) → RecordValue → ReplyRecord
made_alias name target r = record { owner = name; code = cname_code; class = class_code r.class; ttl = r.ttl; octets = wire target }

abbrev pub made_aliases : List (List ℕ) → List (List ℕ) → Option RecordValue → List ReplyRecord
made_aliases name target None = []
made_aliases name target (Some r) = made_alias name target r ∷ []

-- the records of a part. A name has one DNAME record (RFC 6672, section 2.4); of several the first one counts.
abbrev pub part_records : SectionPart → List ReplyRecord
part_records (Kept records) = map (λ r. sent_as r.owner r.ttl r) records
part_records (Named name records) = map (λ r. sent_as name r.ttl r) records
part_records (Made name records target) = made_aliases name target (slice_get records 0)
part_records (Denying records) = map (λ r. sent_as r.owner (denial_ttl r) r) records

-- ---- each set once

abbrev pub is_dname_at : List (List ℕ) → ReplyRecord → Bool
is_dname_at name x = x.code == dname_code && is_same x.owner name

-- A DNAME record may redirect two names of one chain of aliases. It is sent once (RFC 2181, section 5).
abbrev pub is_again : List ReplyRecord → ReplyRecord → Bool
is_again before x = x.code == dname_code && list_any (is_dname_at x.owner) before

abbrev pub with_once : List ReplyRecord → ReplyRecord → List ReplyRecord
with_once before x = if is_again before x then before else before ++ x ∷ []

unfoldable pub each_once : List ReplyRecord → List ReplyRecord → List ReplyRecord
each_once before [] = before
each_once before (x ∷ records) = each_once (with_once before x) records

-- the records of a section that has these parts
unfoldable pub section_of : List SectionPart → List ReplyRecord
section_of parts = each_once [] (flat_map part_records parts)

-- ---- what helps

-- the zone's own records of a part
abbrev pub own_records : SectionPart → List RecordValue
own_records (Kept records) = records
own_records (Named name records) = records
own_records (Made name records target) = []
own_records (Denying records) = []

abbrev pub with_server : List (List (List ℕ)) → Option (List (List ℕ)) → List (List (List ℕ))
with_server names None = names
with_server names (Some name) = if is_met names name then names else names ++ name ∷ []

-- the servers that records name, each once, after these names
unfoldable pub servers_of : List (List (List ℕ)) → List RecordValue → List (List (List ℕ))
servers_of names [] = names
servers_of names (r ∷ records) = servers_of (with_server names (server r)) records

-- A referral has the servers of a delegation.
abbrev pub is_referral : Option SectionPart → Bool
is_referral (Some (Kept records)) = true
is_referral part = false

-- the addresses of a server
abbrev pub address_parts : ZoneValue → Bool → List (List ℕ) → List SectionPart
address_parts zone referral name = Named name (addresses zone referral name a_code) ∷ Named name (addresses zone referral name aaaa_code) ∷ []

-- What a response has besides (RFC 1034, section 4.3.2, step 6). If all records of a name are asked for, nothing.
unfoldable pub helping_parts : ZoneValue → ℕ → ZoneAnswer → List SectionPart
helping_parts zone code a =
    if code == any_code then []
    else flat_map (address_parts zone (is_referral a.authority)) (servers_of [] (flat_map own_records (a.answers ++ option_to_list a.authority)))
