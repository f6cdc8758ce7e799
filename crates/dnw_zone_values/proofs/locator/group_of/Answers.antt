use Rattle.dnw_zone_values.proofs.LocatorsBack.{group_of_three, group_of_four}
use Rattle.dnw_zone_values.proofs.locator.group_of.Goals as goal

pub returns-in-len3 : goal.returns-in-len3
returns-in-len3 c = group_of_three c.args.text.now c.digits_number-in-len3.result c.in-len3.len_at_least c.in-len3.len_below c.digits_number-in-len3.ensures

pub returns-in-len4 : goal.returns-in-len4
returns-in-len4 c = group_of_four c.args.text.now c.digits_number-in-len4.result c.in-len4.len_at_least c.in-len4.len_below c.digits_number-in-len4.ensures
