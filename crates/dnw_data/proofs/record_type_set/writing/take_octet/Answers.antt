use Rattle.std.proofs.Common.{◌≡◌, arith}
use Rattle.dnw_data.proofs.Writing.{taken_bit, taken_all}
use Rattle.dnw_data.proofs.record_type_set.writing.take_octet.Goals as goal

pub loop-bit-preserved : goal.loop-bit-preserved
loop-bit-preserved c =
    rw c.with_bit-octet.ensures
    (taken_bit c.take_code-set.result.0 c.args.first c.loop-bit.octet c.loop-bit.bit c.args.codes.now c.loop-bit.rest.now c.take_code-set.result.1.now
    c.loop-bit-test.true c.loop-bit.invariant c.take_code-set.ensures.codes c.take_code-set.ensures.above)

pub returns-clause-codes : goal.returns-clause-codes
returns-clause-codes c =
    let all : c.loop-bit.bit ≡ 8 = omega arith in
    taken_all c.args.first c.loop-bit.octet c.args.codes.now c.loop-bit.rest.now (rw all at c.loop-bit.invariant)
