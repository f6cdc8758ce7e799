use Rattle.std.proofs.Common.{◌≡◌, drop}
use Rattle.dnw_message_writer.specs.Copying.{sets_of}
use Rattle.dnw_message_writer.proofs.missing.pass.Given as goal

abbrev pub invariant-records : goal.invariant-records
invariant-records l = drop l.left (sets_of l.section l.records) ≡ drop l.count (sets_of l.section l.fn.records)

abbrev pub decreases-records : goal.decreases-records
decreases-records l = l.left
