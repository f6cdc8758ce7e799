use Rattle.std.proofs.Common.{arith, ◌∙◌}
use Rattle.dnw_zone_values.specs.Inside.Digits.{base32_digit_value}
use Rattle.dnw_zone_values.proofs.FourDigits.{base32_below, sum_of_four}
use Rattle.dnw_zone_values.proofs.fours.base32_number.Goals as goal

pub returns : goal.returns
returns c =
    c.number_of.ensures
    ∙ sum_of_four 32768 1024 32 32 (λ a b c d ha hb hc hd. omega arith) (base32_digit_value c.args.a) (base32_digit_value c.args.b) (base32_digit_value c.args.c) (base32_digit_value c.args.d)
    (base32_below c.args.a) (base32_below c.args.b) (base32_below c.args.c) (base32_below c.args.d) _
    (omega (arith, c.placed_base32.ensures.is, c.placed_base32-2.ensures.is, c.placed_base32-3.ensures.is, c.placed_base32-4.ensures.is))
