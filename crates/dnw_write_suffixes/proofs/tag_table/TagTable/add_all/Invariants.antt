use Rattle.std.proofs.Common.{◌-◌}
use Rattle.dnw_write_suffixes.specs.Inside.TagTable.{AreTaggedByFront}
use Rattle.dnw_write_suffixes.proofs.tag_table.TagTable.add_all.Given as goal

abbrev pub invariant-tag_table : goal.invariant-tag_table
invariant-tag_table l = AreTaggedByFront l.self.last l.self.next l.self.count l.candidates

abbrev pub decreases-tag_table : goal.decreases-tag_table
decreases-tag_table l = 255 - l.self.count
