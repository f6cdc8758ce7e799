use Rattle.std.proofs.Common.{ℕ, Option, length}
use Rattle.dnw_record.specs.DataPointers.{TakesAllPointers}
use Rattle.dnw_message_read.proofs.pointers.left_of.Given as goal

-- what is left, from here, gives what all gives
abbrev pub invariant-records : goal.invariant-records
invariant-records l = (end : Option ℕ) → TakesAllPointers l.records l.now end → TakesAllPointers l.fn.records l.fn.left end

abbrev pub decreases-records : goal.decreases-records
decreases-records l = length l.records
