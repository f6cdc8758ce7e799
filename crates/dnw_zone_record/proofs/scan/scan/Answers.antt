use Rattle.std.proofs.Common.{sym, ap, ◌∙◌}
use Rattle.dnw_zone_record.proofs.Runs.{ended_run}
use Rattle.dnw_zone_record.proofs.scan.scan.Goals as goal

pub returns-in_default-clause-line : goal.returns-in_default-clause-line
returns-in_default-clause-line c =
    sym c.loop-c.invariant.line
    ∙ ended_run c.loop-c.place c.loop-c.line.items c.extend_from_slice.new.self.items c.loop-c.depth c.loop-c.left.now c.split_kept.result.0.now
    c.split_kept.result.1.now c.split_kept.ensures.run c.split_kept.ensures.others c.in_ok-extend_from_slice.ensures.items c.in_default.ensures.cases
    ∙ ap (λ ending. (c.extend_from_slice.new.self.items, ending)) (sym c.end_of.ensures.is)
