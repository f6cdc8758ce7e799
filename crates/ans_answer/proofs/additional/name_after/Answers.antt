use Rattle.std.proofs.Common.{sym, arith}
use Rattle.ans_answer.proofs.Targets.{nothing_is_none}
use Rattle.ans_answer.proofs.additional.name_after.Goals as goal

pub returns-then-octets-count : goal.returns-then-octets-count
returns-then-octets-count c = sym (nothing_is_none c.args.octets.now c.args.count (omega arith))
