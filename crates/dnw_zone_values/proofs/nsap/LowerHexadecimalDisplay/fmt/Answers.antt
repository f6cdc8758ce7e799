use Rattle.std.proofs.Common.{arith, rules}
use Rattle.std.proofs.lemmas.Grind.{common_steps}
use Rattle.dnw_zone_values.proofs.NsapBack.{lower_more, lower_nil}
use Rattle.dnw_zone_values.proofs.nsap.LowerHexadecimalDisplay.fmt.Goals as goal

pub loop-octet-init : goal.loop-octet-init
loop-octet-init g c = rw lower_nil (search rules)

pub loop-octet-preserved : goal.loop-octet-preserved
loop-octet-preserved g c = grind (arith, common_steps, lower_more)
