-- Outcomes and answers as code has them: with the numbers of records in place of the records, and of names in place of the names.
use Rattle.std.specs.Prelude.{ℕ, ◌+◌, ◌≤◌, List, [], ◌∷◌, ◌++◌, length, map, slice_index_or, slice_range, Option, Some, None}
use Rattle.std.specs.Option.{option_map, option_to_list}
use Rattle.dns_names_wire.specs.Words.{NameValue, RecordValue, cname_code, dname_code, soa_code}
use Rattle.ans_store.specs.declared.lookup.Node.{Node}
use Rattle.ans_answer.specs.Answers.{Lead, Cname, Dname, Stays, SectionPart, Denying, Kept, Made, Named, ZoneAnswer, records_of_type}
use Rattle.ans_answer.specs.Outcomes.{ZoneOutcome, Exact, NoName, Outside, Redirect, Referral, Synthesised}
use Rattle.ans_answer.specs.Targets.{Next, Nowhere, To, TooLong}
use Rattle.ans_answer.specs.declared.answer.Answer.{Answer}
use Rattle.ans_answer.specs.declared.answer.Part.{Part as FoundPart}
use Rattle.ans_answer.specs.declared.answer.Part.TheVariants as parts
use Rattle.ans_answer.specs.declared.lead.Lead.{Lead as FoundLead}
use Rattle.ans_answer.specs.declared.lead.Lead.TheVariants as leads
use Rattle.ans_answer.specs.declared.outcome.Outcome.{Outcome as Found}
use Rattle.ans_answer.specs.declared.outcome.Outcome.TheVariants as found
use Rattle.ans_answer.specs.declared.target.Next.{Next as FoundNext}
use Rattle.ans_answer.specs.declared.target.Next.TheVariants as nexts

abbrev pub node_records : List RecordValue → Node → List RecordValue
node_records records node = slice_range records node.start node.end

abbrev pub records_seen : List RecordValue → Option Node → List RecordValue
records_seen records None = []
records_seen records (Some node) = node_records records node

abbrev pub outcome_seen : List RecordValue → Found → ZoneOutcome
outcome_seen records found.Outside = Outside
outcome_seen records (found.Referral node) = Referral (node_records records node)
outcome_seen records (found.Redirect node) = Redirect (node_records records node)
outcome_seen records (found.Exact node) = Exact (node_records records node)
outcome_seen records (found.Synthesised node) = Synthesised (node_records records node)
outcome_seen records found.NoName = NoName

-- The numbers of what a name owns are those of records.
pub record IsOfRecords (records : List RecordValue) (node : Node) : Type 0 where
  pub ordered : node.start ≤ node.end
  pub within : node.end ≤ length records

-- So it is with what an outcome has.
abbrev pub HasRecords : List RecordValue → Found → Type 0
HasRecords records (found.Referral node) = IsOfRecords records node
HasRecords records (found.Redirect node) = IsOfRecords records node
HasRecords records (found.Exact node) = IsOfRecords records node
HasRecords records (found.Synthesised node) = IsOfRecords records node
HasRecords records outcome = Unit {0}

-- ---- answers

abbrev pub next_seen : FoundNext → Next
next_seen (nexts.To name) = To name.labels
next_seen nexts.Nowhere = Nowhere
next_seen nexts.TooLong = TooLong

abbrev pub lead_seen : List RecordValue → FoundLead → Lead
lead_seen records (leads.Stays outcome) = Stays (outcome_seen records outcome)
lead_seen records (leads.Cname node next) = Cname (records_of_type cname_code (node_records records node)) (next_seen next)
lead_seen records (leads.Dname node next) = Dname (records_of_type dname_code (node_records records node)) (next_seen next)

abbrev pub LeadHasRecords : List RecordValue → FoundLead → Type 0
LeadHasRecords records (leads.Stays outcome) = HasRecords records outcome
LeadHasRecords records (leads.Cname node next) = IsOfRecords records node
LeadHasRecords records (leads.Dname node next) = IsOfRecords records node

abbrev pub all_labels : List NameValue → List (List (List ℕ))
all_labels names = map (λ name. name.labels) names

-- the name of a number
abbrev pub numbered_name : List (List (List ℕ)) → ℕ → List (List ℕ)
numbered_name names number = slice_index_or names number []

abbrev pub part_seen : List RecordValue → List (List (List ℕ)) → FoundPart → SectionPart
part_seen records names (parts.Kept node code) = Kept (records_of_type code (node_records records node))
part_seen records names (parts.Named number node code) = Named (numbered_name names number) (records_of_type code (node_records records node))
part_seen records names (parts.Made number node) = Made (numbered_name names number) (records_of_type dname_code (node_records records node)) (numbered_name names (number + 1))
part_seen records names (parts.Denying node) = Denying (records_of_type soa_code (node_records records node))

abbrev pub parts_seen : List RecordValue → List (List (List ℕ)) → List FoundPart → List SectionPart
parts_seen records names parts = map (part_seen records names) parts

-- the names that were asked for: that of the question, and those that aliases lead to
abbrev pub names_of : List (List ℕ) → Answer → List (List (List ℕ))
names_of asked answer = asked ∷ all_labels answer.names.items

abbrev pub answer_seen : List RecordValue → List (List ℕ) → Answer → ZoneAnswer
answer_seen records asked answer = record {
  code = answer.rcode;
  authoritative = answer.is_authoritative;
  answers = parts_seen records (names_of asked answer) (answer.aliases.items ++ option_to_list answer.data);
  authority = option_map (part_seen records (names_of asked answer)) answer.authority;
}
