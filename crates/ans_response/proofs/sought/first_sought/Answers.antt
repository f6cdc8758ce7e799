use Rattle.ans_response.proofs.First.{first_found, found_is_sought}
use Rattle.ans_response.proofs.sought.first_sought.Goals as goal

pub returns-clause-first : goal.returns-clause-first
returns-clause-first c target =
    first_found target c.args.asked.now c.args.name.now.labels c.args.sought c.args.records c.next_sought.new.records c.next_sought.result c.next_sought.ensures

pub returns-clause-sought : goal.returns-clause-sought
returns-clause-sought c =
    found_is_sought c.args.asked.now c.args.name.now.labels c.args.sought c.args.records c.next_sought.new.records c.next_sought.result c.next_sought.ensures
