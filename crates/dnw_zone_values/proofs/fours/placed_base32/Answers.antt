use Rattle.std.proofs.Common.{ℕ, refl, arith}
use Rattle.dnw_zone_values.specs.Inside.Digits.{base32_digit_value, base32_places, in_place}
use Rattle.dnw_zone_values.specs.declared.fours.TheConstants.{BASE32}
use Rattle.dnw_zone_values.proofs.FourDigits.{in_table, most_in_table}
use Rattle.dnw_zone_values.proofs.fours.placed_base32.Goals as goal

pub returns-clause-is : goal.returns-clause-is
returns-clause-is c = in_table BASE32 base32_places (λ (u c : ℕ). in_place u (base32_digit_value c)) c.args.place c.args.c refl c.requires (omega arith)

pub returns-clause-most : goal.returns-clause-most
returns-clause-most c = most_in_table BASE32 c.args.place c.args.c refl c.requires (omega arith)
