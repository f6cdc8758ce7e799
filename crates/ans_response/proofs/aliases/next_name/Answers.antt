use Rattle.ans_response.proofs.First.{above_if_sought}
use Rattle.ans_response.proofs.aliases.next_name.Goals as goal

pub by_dname-requires : goal.by_dname-requires
by_dname-requires c = above_if_sought c.args.asked.now c.args.name.now.labels c.in-Some.dname.owner _ c.in-Some.ensures.sought
