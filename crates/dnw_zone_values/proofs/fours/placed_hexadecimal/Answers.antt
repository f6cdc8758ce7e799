use Rattle.std.proofs.Common.{ℕ, refl, arith}
use Rattle.hex.specs.Hex.{hex_digit_value}
use Rattle.dnw_zone_values.specs.Inside.Digits.{hexadecimal_places, in_place}
use Rattle.dnw_zone_values.specs.declared.fours.TheConstants.{HEXADECIMAL}
use Rattle.dnw_zone_values.proofs.FourDigits.{in_table, most_in_table}
use Rattle.dnw_zone_values.proofs.fours.placed_hexadecimal.Goals as goal

pub returns-clause-is : goal.returns-clause-is
returns-clause-is c = in_table HEXADECIMAL hexadecimal_places (λ (u c : ℕ). in_place u (hex_digit_value c)) c.args.place c.args.c refl c.requires (omega arith)

pub returns-clause-most : goal.returns-clause-most
returns-clause-most c = most_in_table HEXADECIMAL c.args.place c.args.c refl c.requires (omega arith)
