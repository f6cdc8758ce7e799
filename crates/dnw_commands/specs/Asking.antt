-- Queries, as they are written (RFC 1035, section 4.1).
use Rattle.std.specs.Prelude.{◌≡◌, ◌⊎◌, ℕ, ◌+◌, min, Bool, true, false, List, ◌++◌, length, take, replicate, if◌then◌else◌}
use Rattle.std.specs.Int.{w16, to_be_bytes}
use Rattle.dns_names_wire.specs.Words.{AddsItem, AddsOpt, BeginsMessage, FailsToAdd, FailsToAddOpt, Queries, WriterState, max_u16, question_form, question_past}
use Rattle.dns_names_wire.specs.Words.{class_code, released, slot_of, type_code}
use Rattle.dns_names_wire.specs.declared.message_writer.Edns.{Edns}
use Rattle.dns_names_wire.specs.declared.message_writer.WriteError.{WriteError}
use Rattle.dnw_commands.specs.Refusals.{IsMemory}
use Rattle.dnw_commands.specs.declared.base.refusal.Refusal.{Refusal}
use Rattle.dnw_commands.specs.declared.base.refusal.Refusal.TheVariants.{Write}
use Rattle.dnw_commands.specs.declared.queries.written.Asked.{Asked}

-- RD, by which recursion is asked for (RFC 1035, section 4.1.1)
abbrev pub asking : ℕ
asking = 256

-- the octets of the greatest query without options: a header, the longest name, a type and a class, and an OPT record
abbrev pub max_query : ℕ
max_query = 12 + 255 + 4 + 11

-- the octets of the buffer
abbrev pub query_room : Asked → ℕ
query_room asked = max_query + length asked.options.items

-- the size of a response that passes most links in one piece (DNS flag day 2020)
abbrev pub max_payload : ℕ
max_payload = 1232

-- The message has a header with this id, and nothing else.
abbrev pub BeginsAsking : Asked → WriterState → List ℕ → Type 0
BeginsAsking asked w m = BeginsMessage asked.id asking (query_room asked) (replicate (query_room asked) 0) w m

-- It has the question.
unfoldable pub HasQuestion : Asked → WriterState → List ℕ → Type 0
HasQuestion asked w m =
    (v : WriterState) × (n : List ℕ) × BeginsAsking asked v n
    × AddsItem Queries (question_form slot_of asked.name.labels (type_code asked.record_type) (class_code asked.class)) v n w m

-- EDNS as a query says it (RFC 6891, section 6.1): that size, DO and the options
abbrev pub IsEdnsOf : Asked → Edns → Type 0
IsEdnsOf asked edns =
    (edns.max_payload ≡ max_payload) × (edns.rcode_high ≡ 0) × (edns.version ≡ 0) × (edns.dnssec_ok ≡ asked.dnssec_ok)
    × (edns.options.now ≡ asked.options.items)

-- The OPT record is added, if it is asked for.
unfoldable pub SaysEdns : Bool → Asked → WriterState → List ℕ → WriterState → List ℕ → Type 0
SaysEdns true asked v n w m = (edns : Edns) × IsEdnsOf asked edns × AddsOpt edns 0 (released 0 v) n w m
SaysEdns false asked v n w m = (w ≡ v) × (m ≡ n)

-- The question is not added.
unfoldable pub FailsQuestion : Asked → WriteError → Type 0
FailsQuestion asked error =
    (v : WriterState) × (n : List ℕ) × BeginsAsking asked v n × FailsToAdd Queries (question_past slot_of asked.name.labels) v n error

-- The OPT record is not added.
unfoldable pub FailsToSayEdns : Asked → WriterState → List ℕ → WriteError → Type 0
FailsToSayEdns asked v n error = (edns : Edns) × IsEdnsOf asked edns × FailsToAddOpt edns 0 (released 0 v) n error

-- The message is the query.
abbrev pub IsAsked : Asked → WriterState → List ℕ → Type 0
IsAsked asked w m = (v : WriterState) × (n : List ℕ) × HasQuestion asked v n × SaysEdns asked.has_edns asked v n w m

-- The question is not added, or the OPT record after it.
abbrev pub FailsToWrite : Asked → WriteError → Type 0
FailsToWrite asked error =
    FailsQuestion asked error
    ⊎ ((v : WriterState) × (n : List ℕ) × HasQuestion asked v n × (asked.has_edns ≡ true) × FailsToSayEdns asked v n error)

-- The octets are those of the query.
abbrev pub IsQueryOf : Asked → List ℕ → Type 0
IsQueryOf asked octets = (w : WriterState) × (m : List ℕ) × IsAsked asked w m × (octets ≡ take w.end m)

-- There is no query: an item is not added, or memory ran out.
abbrev pub FailsToAsk : Asked → Refusal → Type 0
FailsToAsk asked (Write error) = FailsToWrite asked error
FailsToAsk asked refusal = IsMemory refusal

-- the octets of a message in a stream: after its length in two octets (RFC 1035, section 4.2.2)
abbrev pub framed : Bool → List ℕ → List ℕ
framed is_framed message = if is_framed then to_be_bytes w16 (min (length message) max_u16) ++ message else message
