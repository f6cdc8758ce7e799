use Rattle.dnw_name_text.proofs.Units.{empty_label, label_ends}
use Rattle.dnw_name_text.proofs.ascii_fault.Progress.end_label.Goals as goal

pub returns-then-self-eq0-clause-err : goal.returns-then-self-eq0-clause-err
returns-then-self-eq0-clause-err c = empty_label c.args.self.now c.if-self-eq0.true

pub returns-clause-ok : goal.returns-clause-ok
returns-clause-ok c = label_ends c.args.self.now c.if-self-eq0.false
