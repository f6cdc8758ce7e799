use Rattle.std.proofs.Common.{arith, ◌∙◌}
use Rattle.hex.specs.Hex.{hex_digit_value}
use Rattle.dnw_zone_values.proofs.FourDigits.{hexadecimal_below, sum_of_four}
use Rattle.dnw_zone_values.proofs.fours.hexadecimal_number.Goals as goal

pub returns : goal.returns
returns c =
    c.number_of.ensures
    ∙ sum_of_four 4096 256 16 16 (λ a b c d ha hb hc hd. omega arith) (hex_digit_value c.args.a) (hex_digit_value c.args.b) (hex_digit_value c.args.c) (hex_digit_value c.args.d)
    (hexadecimal_below c.args.a) (hexadecimal_below c.args.b) (hexadecimal_below c.args.c) (hexadecimal_below c.args.d) _
    (omega (arith, c.placed_hexadecimal.ensures.is, c.placed_hexadecimal-2.ensures.is, c.placed_hexadecimal-3.ensures.is, c.placed_hexadecimal-4.ensures.is))
