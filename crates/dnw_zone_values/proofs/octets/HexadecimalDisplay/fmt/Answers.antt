use Rattle.std.proofs.Common.{arith, rules}
use Rattle.std.proofs.lemmas.Grind.{common_steps}
use Rattle.dnw_zone_values.proofs.HexText.{hex_text_more, hex_text_nil}
use Rattle.dnw_zone_values.proofs.octets.HexadecimalDisplay.fmt.Goals as goal

pub loop-octet-init : goal.loop-octet-init
loop-octet-init g c = rw hex_text_nil (search rules)

pub loop-octet-preserved : goal.loop-octet-preserved
loop-octet-preserved g c = grind (arith, common_steps, hex_text_more)
