use Rattle.std.proofs.Common.{[], sym, append-nil}
use Rattle.dnw_zone_values.proofs.Groups.{no_six}
use Rattle.dnw_zone_values.proofs.base32.push_last.Goals as goal

pub returns-in_default-3-clause-ok : goal.returns-in_default-3-clause-ok
returns-in_default-3-clause-ok c = (no_six c.args.digits.now c.in_default.len_at_least c.in_default.len_below, ([], sym (append-nil c.args.octets.now.items)))
