-- Each record says of the name what the definition says.
use Rattle.std.proofs.Common.{sym}
use Rattle.ans_denial.specs.Seen.{existence_seen}
use Rattle.ans_denial.proofs.Steps.{said_at, says_next, says_none}
use Rattle.ans_denial.proofs.nsec.existence_of.Goals as goal

pub returns-in-Some-clause-said : goal.returns-in-Some-clause-said
returns-in-Some-clause-said c =
    said_at c.args.nsecs.now c.args.name.now.labels c.records.nsec-index c.nsec-item.result (existence_seen c.args.name.now.labels c.in-Some.existence)
    c.records.invariant c.records-test.true c.nsec-item.is (sym c.in-Some.ensures.said)

pub records-preserved : goal.records-preserved
records-preserved c =
    says_next c.args.nsecs.now c.args.name.now.labels c.records.nsec-index c.nsec-item.result c.records.invariant c.records-test.true c.nsec-item.is
    (sym c.in_default.ensures.said)

pub returns-clause-said : goal.returns-clause-said
returns-clause-said c = says_none c.args.nsecs.now c.args.name.now.labels c.records.nsec-index c.records.invariant c.records-test.false
