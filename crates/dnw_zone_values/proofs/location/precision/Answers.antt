use Rattle.std.proofs.Common.{arith}
use Rattle.dnw_zone_values.proofs.LocationSteps.{digit_less, digits_few, precision_digit, precision_few}
use Rattle.dnw_zone_values.proofs.location.precision.Goals as goal

pub overflow_add-exponent : goal.overflow_add-exponent
overflow_add-exponent c = let few = digits_few c.args.centimetres c.digits.mantissa c.digits.exponent c.requires c.digits.invariant.1 in omega arith

pub digits-preserved : goal.digits-preserved
digits-preserved c = digit_less c.args.centimetres c.digits.mantissa c.digits.exponent c.digits.invariant.0 c.digits-test.true c.digits.invariant.1

pub overflow_add-result : goal.overflow_add-result
overflow_add-result c =
    let few = digits_few c.args.centimetres c.digits.mantissa c.digits.exponent c.requires c.digits.invariant.1 in
    let all = precision_few c.args.centimetres c.requires in
    let digit = precision_digit c.digits.mantissa c.digits-test.false in
    omega (arith, all, digit, c.digits.invariant.1)

pub returns : goal.returns
returns c = let digit = precision_digit c.digits.mantissa c.digits-test.false in omega (arith, digit, c.digits.invariant.1)
