use Rattle.std.proofs.Common.{◌≡◌}
use Rattle.dnw_data.proofs.record_type_set.RecordTypeSet.new.Given as goal

abbrev pub invariant-loop-record_type : goal.invariant-loop-record_type
invariant-loop-record_type g l = l.listed.items ≡ l.yielded
