use Rattle.std.proofs.Common.{sym, ◌∙◌}
use Rattle.ans_denial.specs.Hashes.{has_hash}
use Rattle.ans_denial.proofs.HashSteps.{found_at, from_more, none_found}
use Rattle.ans_denial.proofs.nsec3.own_record.Goals as goal

pub returns-then-has_hash : goal.returns-then-has_hash
returns-then-has_hash c =
    found_at (has_hash c.args.hash.now) c.args.nsecs.now c.records.nsec-index c.nsec-item.result c.records.invariant c.records-test.true c.nsec-item.is
    (sym c.has_hash.ensures ∙ c.if-has_hash.true)

pub records-preserved : goal.records-preserved
records-preserved c =
    from_more (has_hash c.args.hash.now) c.args.nsecs.now c.records.nsec-index c.nsec-item.result c.records.invariant c.records-test.true c.nsec-item.is
    (sym c.has_hash.ensures ∙ c.if-has_hash.false)

pub returns : goal.returns
returns c = none_found (has_hash c.args.hash.now) c.args.nsecs.now c.records.nsec-index c.records.invariant c.records-test.false
