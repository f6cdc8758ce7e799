use Rattle.ans_denial.specs.HashesSeen.{nsec3_seen}
use Rattle.ans_denial.proofs.HashTests.{covers_by_test}
use Rattle.ans_denial.proofs.nsec3.covers_hash.Goals as goal

pub returns : goal.returns
returns c = covers_by_test c.nsec3_covers.result (nsec3_seen c.args.nsec.now) c.args.hash.now c.nsec3_covers.ensures
