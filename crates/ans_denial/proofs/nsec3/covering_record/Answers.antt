use Rattle.std.proofs.Common.{sym, ◌∙◌}
use Rattle.ans_denial.specs.Hashes.{covers_hash}
use Rattle.ans_denial.proofs.HashSteps.{found_at, from_more, none_found}
use Rattle.ans_denial.proofs.nsec3.covering_record.Goals as goal

pub returns-then-covers_hash : goal.returns-then-covers_hash
returns-then-covers_hash c =
    found_at (covers_hash c.args.hash.now) c.args.nsecs.now c.records.nsec-index c.nsec-item.result c.records.invariant c.records-test.true c.nsec-item.is
    (sym c.covers_hash.ensures ∙ c.if-covers_hash.true)

pub records-preserved : goal.records-preserved
records-preserved c =
    from_more (covers_hash c.args.hash.now) c.args.nsecs.now c.records.nsec-index c.nsec-item.result c.records.invariant c.records-test.true c.nsec-item.is
    (sym c.covers_hash.ensures ∙ c.if-covers_hash.false)

pub returns : goal.returns
returns c = none_found (covers_hash c.args.hash.now) c.args.nsecs.now c.records.nsec-index c.records.invariant c.records-test.false
