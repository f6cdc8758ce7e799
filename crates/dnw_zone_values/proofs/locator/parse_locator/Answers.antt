use Rattle.std.proofs.Common.{refl}
use Rattle.dnw_zone_values.proofs.LocatorsBack.{no_locator}
use Rattle.dnw_zone_values.proofs.locator.parse_locator.Goals as goal

pub returns-in-None : goal.returns-in-None
returns-in-None c = (
  refl,
  no_locator c.args.text.now c.split_first.result.0.now c.split_first-2.result.0.now c.split_first-3.result.0.now c.split_first-3.result.1.now c.split_first.result.1.now c.split_first-2.result.1.now
      c.split_first.ensures.front c.split_first.ensures.back c.split_first-2.ensures.front c.split_first-2.ensures.back c.split_first-3.ensures.front c.split_first-3.ensures.back c.in-None.ensures,
)
