use Rattle.std.proofs.Common.{ℕ, Option, length}
use Rattle.dnw_record.specs.DataPointers.{TakesDataPointers, TakesPointers}
use Rattle.dnw_record.proofs.pointers.pointers_left.Given as goal

-- what is left, from here, gives what all gives
abbrev pub invariant-fields : goal.invariant-fields
invariant-fields l = (end : Option ℕ) → TakesPointers l.kinds l.reader l.now end → TakesDataPointers l.fn.item l.fn.left end

abbrev pub decreases-fields : goal.decreases-fields
decreases-fields l = length l.kinds
