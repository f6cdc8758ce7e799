-- The last name decides.
use Rattle.std.proofs.Common.{◌≡◌, ◌+◌, ◌-◌, length, arith}
use Rattle.uses.proofs.TableOrder.{last_decides}
use Rattle.uses.proofs.table.NameTable.comes_last.Goals as goal

pub returns-else-len-eq0 : goal.returns-else-len-eq0
returns-else-len-eq0 c =
    let last : c.len-len.result - 1 + 1 ≡ length c.args.self.now = omega (arith, c.len-len.ensures.len, c.if-len-eq0.false) in
    last_decides c.args.self.now c.len-len.ensures.ascending c.args.name.now.labels c.name_at.result _ last c.name_at.ensures
    c.cmp_name.result c.cmp_name.ensures c.is_lt.result c.is_lt.ensures
