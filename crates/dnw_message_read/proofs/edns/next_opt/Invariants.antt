use Rattle.std.proofs.Common.{◌≡◌, length}
use Rattle.dnw_message_read.specs.Edns.{opts_in}
use Rattle.dnw_message_read.proofs.edns.next_opt.Given as goal

abbrev pub invariant-records : goal.invariant-records
invariant-records l = opts_in l.records ≡ opts_in l.fn.records

abbrev pub decreases-records : goal.decreases-records
decreases-records l = length l.records
