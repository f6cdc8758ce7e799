-- As what records of the zone are sent.
use Rattle.std.specs.Prelude.{ℕ, if◌then◌else◌, List, []}
use Rattle.dns_names_wire.specs.Words.{RecordValue}
use Rattle.ans_answer.specs.Answers.{denial_ttl, records_of_type}
use Rattle.ans_answer.specs.Additionals.{server}
use Rattle.ans_answer.specs.Outcomes.{is_wanted}
use Rattle.ans_answer.specs.Seen.{node_records}
use Rattle.ans_answer.specs.declared.answer.Part.{Part}
use Rattle.ans_answer.specs.declared.answer.Part.TheVariants as parts
use Rattle.ans_reply.specs.Sections.{ReplyRecord, sent_as, with_once, with_server}
use Rattle.ans_reply.specs.declared.section.Role.{Role}
use Rattle.ans_reply.specs.declared.section.Role.TheVariants as roles

abbrev pub sent : Role → RecordValue → ReplyRecord
sent roles.Kept r = sent_as r.owner r.ttl r
sent (roles.Named name) r = sent_as name.labels r.ttl r
sent roles.Denying r = sent_as r.owner (denial_ttl r) r

-- A record is sent, if it is asked for.
abbrev pub with_wanted : ℕ → Role → List ReplyRecord → RecordValue → List ReplyRecord
with_wanted code role before r = if is_wanted code r then with_once before (sent role r) else before

-- So is the server that it names.
abbrev pub with_wanted_server : ℕ → List (List (List ℕ)) → RecordValue → List (List (List ℕ))
with_wanted_server code names r = if is_wanted code r then with_server names (server r) else names

-- the zone's own records of a part
abbrev pub owned_in : List RecordValue → Part → List RecordValue
owned_in records (parts.Kept node code) = records_of_type code (node_records records node)
owned_in records (parts.Named number node code) = records_of_type code (node_records records node)
owned_in records (parts.Made number node) = []
owned_in records (parts.Denying node) = []
