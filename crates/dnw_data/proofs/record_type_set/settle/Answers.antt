use Rattle.std.proofs.Common.{refl}
use Rattle.dnw_data.proofs.Sets.{settled, settled_already}
use Rattle.dnw_data.proofs.record_type_set.settle.Goals as goal

pub returns : goal.returns
returns c =
    settled c.args.types.now.items c.sort_unstable.new.self.items c.dedup.new.self.items c.sort_unstable.ensures.permutation c.sort_unstable.ensures.sorted c.dedup.ensures.filtered

pub returns-then-is_ascending : goal.returns-then-is_ascending
returns-then-is_ascending c = settled_already c.args.types.now.items (rw c.as_slice.ensures.value at (c.if-is_ascending.ensures refl))
