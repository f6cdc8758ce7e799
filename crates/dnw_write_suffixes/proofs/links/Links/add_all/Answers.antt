-- One more candidate has its links.
use Rattle.std.proofs.Common.{sym, ◌∙◌, arith}
use Rattle.dnw_write_suffixes.proofs.Rings.{tagged_more}
use Rattle.dnw_write_suffixes.proofs.links.Links.add_all.Goals as goal

pub links-preserved : goal.links-preserved
links-preserved c = record {
  size = c.add.ensures.room ∙ c.links.invariant.size;
  chained = tagged_more c.args.candidates.now c.links.self.count c.add.new.self.count (c.get.result.0, c.get.result.1.now)
      (omega (arith, c.links-test.true, c.len.ensures)) c.add.ensures.count c.get.ensures.item
      (λ T is. c.add.ensures.linked T (is ∙ sym c.wide_tag.ensures.value)) c.links.invariant.chained;
}
