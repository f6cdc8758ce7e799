use Rattle.dnw_zone_data.proofs.BitmapSteps.{all_spell}
use Rattle.dnw_zone_data.proofs.parsing.parse_all_octets.Goals as goal

pub returns-in-Ports : goal.returns-in-Ports
returns-in-Ports c = rw c.in-Ports.is c.parse_bits.ensures

pub returns-in-OldTypes : goal.returns-in-OldTypes
returns-in-OldTypes c = rw c.in-OldTypes.is c.parse_bits-in-OldTypes.ensures

pub returns-in_default : goal.returns-in_default
returns-in_default c =
    all_spell c.args.form c.args.shown c.args.left.now c.args.out.now.items c.parse_given.new.out.items c.parse_given.result c.in_default.not-Ports c.in_default.not-OldTypes c.parse_given.ensures
