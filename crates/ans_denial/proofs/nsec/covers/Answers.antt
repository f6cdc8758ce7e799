use Rattle.ans_denial.specs.Seen.{nsec_seen}
use Rattle.ans_denial.proofs.Steps.{covers_by_test}
use Rattle.ans_denial.proofs.nsec.covers.Goals as goal

pub returns : goal.returns
returns c = covers_by_test c.nsec_covers.result (nsec_seen c.args.nsec.now) c.args.name.now.labels c.nsec_covers.ensures
