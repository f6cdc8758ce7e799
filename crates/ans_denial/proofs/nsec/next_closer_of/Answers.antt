use Rattle.std.proofs.Common.{ap, sym, ◌∙◌, arith}
use Rattle.ans_denial.specs.Nsecs.{is_above_ends}
use Rattle.ans_denial.specs.Seen.{nsec_seen}
use Rattle.ans_denial.proofs.Steps.{climb_ends, climb_here, climb_starts, climb_up}
use Rattle.ans_denial.proofs.nsec.next_closer_of.Goals as goal

pub up-init : goal.up-init
up-init c = climb_starts (nsec_seen c.args.nsec.now) c.args.name.now.labels c.count_of-count.result c.requires c.count_of-count.ensures

pub returns-then-is_above_ends-clause-closest : goal.returns-then-is_above_ends-clause-closest
returns-then-is_above_ends-clause-closest c =
    climb_here (nsec_seen c.args.nsec.now) c.args.name.now.labels c.up.count c.up.invariant
    (ap (is_above_ends (nsec_seen c.args.nsec.now)) (sym c.last_labels.ensures) ∙ (sym c.is_above_ends-in-up.ensures ∙ c.if-is_above_ends.true))

pub up-preserved : goal.up-preserved
up-preserved c =
    climb_up (nsec_seen c.args.nsec.now) c.args.name.now.labels c.up.count (omega arith) c.up.invariant
    (ap (is_above_ends (nsec_seen c.args.nsec.now)) (sym c.last_labels.ensures) ∙ (sym c.is_above_ends-in-up.ensures ∙ c.if-is_above_ends.false))

pub returns-clause-closest : goal.returns-clause-closest
returns-clause-closest c = climb_ends (nsec_seen c.args.nsec.now) c.args.name.now.labels c.up.count (omega arith) c.up.invariant
