use Rattle.std.proofs.Common.{◌≡◌, length}
use Rattle.dnw_message_writer.specs.Needs.{holding_all}
use Rattle.dnw_message_writer.proofs.missing.take_all.Given as goal

abbrev pub invariant-records : goal.invariant-records
invariant-records l = holding_all l.section l.records l.purpose ≡ holding_all l.section l.fn.records l.fn.purpose

abbrev pub decreases-records : goal.decreases-records
decreases-records l = length l.records
