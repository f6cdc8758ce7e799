use Rattle.std.proofs.Common.{◌-◌, length}
use Rattle.ans_store.proofs.Search.{AreSameUpTo}
use Rattle.ans_store.proofs.lookup.end_of.Given as goal

abbrev pub invariant-owned : goal.invariant-owned
invariant-owned l = AreSameUpTo l.records l.name.labels l.start l.end

abbrev pub decreases-owned : goal.decreases-owned
decreases-owned l = length l.records - l.end
