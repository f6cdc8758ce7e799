use Rattle.std.proofs.Common.{sym}
use Rattle.dnw_name_form.proofs.LastLengths.{none_known, Passed_start, Passed_next, Passed_all}
use Rattle.dnw_name_form.proofs.OpenWires.{open_front}
use Rattle.dnw_name_form.proofs.lengths.few_lengths_of.Goals as goal

pub labels-init : goal.labels-init
labels-init c = Passed_start _ c.requires

pub split_at-requires : goal.split_at-requires
split_at-requires c = (open_front _ _ _ c.labels.invariant.wire c.in-Some.ensures.cases.0).fits

pub labels-preserved : goal.labels-preserved
labels-preserved c =
    rw (c.split_at.ensures.back, c.with_length-lengths.ensures)
    (Passed_next _ _ _ _ _ c.labels.invariant (open_front _ _ _ c.labels.invariant.wire c.in-Some.ensures.cases.0))

pub returns : goal.returns
returns c = Passed_all _ _ _ c.labels.invariant c.in_default.ensures.cases

pub returns-then-lengths-ge-KEPT : goal.returns-then-lengths-ge-KEPT
returns-then-lengths-ge-KEPT c = none_known _
