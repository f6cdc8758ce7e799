use Rattle.std.proofs.Common.{sym, ◌∙◌}
use Rattle.dnw_zone_data.proofs.Spaces.{mark_next}
use Rattle.dnw_zone_data.proofs.words.from_space.Goals as goal

pub loop-first-preserved : goal.loop-first-preserved
loop-first-preserved c =
    mark_next c.args.text.now c.loop-first.left.now c.in-Some.rest.now c.in-Some.first.now c.in-Some.ensures.cases.0 (sym c.is_space.ensures ∙ c.if-is_space.false)
    c.loop-first.invariant
