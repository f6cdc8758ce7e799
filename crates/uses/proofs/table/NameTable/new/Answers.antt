use Rattle.uses.proofs.TablePush.{empty}
use Rattle.uses.proofs.table.NameTable.new.Goals as goal

pub invariant_of-result : goal.invariant_of-result
invariant_of-result c = rw (c.new.ensures.items, c.new-2.ensures.items) empty
