-- One more candidate has its mark.
use Rattle.std.proofs.Common.{sym, ◌∙◌, arith}
use Rattle.dnw_write_suffixes.proofs.Rings.{tagged_more}
use Rattle.dnw_write_suffixes.proofs.tag_table.TagTable.add_all.Goals as goal

pub tag_table-preserved : goal.tag_table-preserved
tag_table-preserved c =
    tagged_more c.args.candidates.now c.tag_table.self.count c.add.new.self.count (c.get.result.0, c.get.result.1.now)
    (omega (arith, c.tag_table-test.true, c.len.ensures)) c.add.ensures.count c.get.ensures.item
    (λ T is. c.add.ensures.linked T (is ∙ sym c.tag.ensures.value)) c.tag_table.invariant
