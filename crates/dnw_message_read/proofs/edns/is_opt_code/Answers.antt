use Rattle.std.proofs.Common.{sym}
use Rattle.dnw_message_read.proofs.OptCodes.{opt_code}
use Rattle.dnw_message_read.proofs.edns.is_opt_code.Goals as goal

pub returns : goal.returns
returns c = sym (opt_code c.args.code)
