use Rattle.std.proofs.Common.{◌≡◌, length}
use Rattle.dns_names_wire.specs.Words.{opts_in}
use Rattle.ans_transfer.specs.Places.{high_bits_of}
use Rattle.ans_transfer.proofs.reply.high_bits.Given as goal

abbrev pub invariant-records : goal.invariant-records
invariant-records l = high_bits_of (opts_in l.records) ≡ high_bits_of (opts_in l.fn.records)

abbrev pub decreases-records : goal.decreases-records
decreases-records l = length l.records
