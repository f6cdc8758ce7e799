use Rattle.std.proofs.Common.{◌∙◌}
use Rattle.dnw_write.proofs.Items.{emitted_more}
use Rattle.dnw_write.proofs.encoder.items.BinEncoder.emit_iter.Goals as goal

pub loop-item-preserved : goal.loop-item-preserved
loop-item-preserved g c = (
  emitted_more _ _ _ _ _ _ _ _ _ c.in-Some.item _ _ c.loop-item.invariant.0 c.in-Some.ensures.steps c.in-Some.ensures.goes
      c.in_ok-emit_item.ensures.item c.in_ok-emit_item.ensures.at_end,
  c.emit_item.ensures.lender ∙ c.loop-item.invariant.1,
)
