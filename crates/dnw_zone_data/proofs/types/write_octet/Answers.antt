use Rattle.std.specs.Prelude.{string_bytes}
use Rattle.dnw_zone_data.proofs.TypeSteps.{bit_more}
use Rattle.dnw_zone_data.proofs.types.write_octet.Goals as goal

pub loop-bit-preserved : goal.loop-bit-preserved
loop-bit-preserved c =
    bit_more c.args.shown (string_bytes c.loop-bit.out) (string_bytes c.write_bit.new.out) _ c.args.first c.args.octet c.loop-bit.bit c.loop-bit-test.true c.in_ok-write_bit.ensures c.loop-bit.invariant
