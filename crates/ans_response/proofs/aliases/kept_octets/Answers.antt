use Rattle.std.proofs.Common.{[], arith}
use Rattle.ans_response.proofs.Spliced.{owner_fits}
use Rattle.ans_response.proofs.aliases.kept_octets.Goals as goal

pub overflow_sub-result : goal.overflow_sub-result
overflow_sub-result c = omega (arith, owner_fits c.args.owner.now [] c.args.name.now.labels c.requires, c.encoded_len-2.ensures.size, c.encoded_len.ensures.size)

pub returns-clause-kept : goal.returns-clause-kept
returns-clause-kept c = omega (arith, owner_fits c.args.owner.now [] c.args.name.now.labels c.requires, c.encoded_len-2.ensures.size, c.encoded_len.ensures.size)
