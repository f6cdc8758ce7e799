use Rattle.std.proofs.Common.{arith, ◌∙◌}
use Rattle.dnw_zone_values.specs.Inside.Digits.{base64_digit_value}
use Rattle.dnw_zone_values.proofs.FourDigits.{base64_below, sum_of_four}
use Rattle.dnw_zone_values.proofs.fours.base64_number.Goals as goal

pub returns : goal.returns
returns c =
    c.number_of.ensures
    ∙ sum_of_four 262144 4096 64 64 (λ a b c d ha hb hc hd. omega arith) (base64_digit_value c.args.a) (base64_digit_value c.args.b) (base64_digit_value c.args.c) (base64_digit_value c.args.d)
    (base64_below c.args.a) (base64_below c.args.b) (base64_below c.args.c) (base64_below c.args.d) _
    (omega (arith, c.placed_base64.ensures.is, c.placed_base64-2.ensures.is, c.placed_base64-3.ensures.is, c.placed_base64-4.ensures.is))
