use Rattle.std.proofs.Common.{List, ap, ◌∙◌}
use Rattle.dns_names_wire.specs.Words.{RecordValue}
use Rattle.ans_answer.specs.Additionals.{addresses, said_records}
use Rattle.ans_answer.specs.Answers.{records_of_type}
use Rattle.ans_answer.proofs.additional.addresses_of.Goals as goal

pub returns-then-is_referral-clause-addresses : goal.returns-then-is_referral-clause-addresses
unfolding addresses
returns-then-is_referral-clause-addresses c = rw c.if-is_referral.true (ap (records_of_type c.args.code) c.node.ensures.owned)

pub returns-clause-addresses : goal.returns-clause-addresses
unfolding addresses
returns-clause-addresses c =
    rw c.if-is_referral.false
    (ap (records_of_type c.args.code) (c.said_records.ensures.said c.args.zone.now.records ∙ ap said_records c.outcome_of.ensures.outcome))

pub returns-clause-records : goal.returns-clause-records
returns-clause-records c = c.said_records.ensures.records c.args.zone.now.records c.outcome_of.ensures.records
