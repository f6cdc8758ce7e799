use Rattle.std.proofs.Common.{◌≡◌, length}
use Rattle.dns_names_wire.specs.Words.{opts_in}
use Rattle.ans_response.specs.Meanings.{high_code_bits}
use Rattle.ans_response.proofs.asked.high_bits.Given as goal

abbrev pub invariant-records : goal.invariant-records
invariant-records l = high_code_bits (opts_in l.records) ≡ high_code_bits (opts_in l.fn.records)

abbrev pub decreases-records : goal.decreases-records
decreases-records l = length l.records
