use Rattle.ans_transfer.proofs.Doing.{steps_are_done, zones_are_added}
use Rattle.ans_transfer.proofs.Moves.{all_items}
use Rattle.ans_transfer.proofs.laws.all_do_something.Goals as goal

pub returns-clause-all : goal.returns-clause-all
returns-clause-all c = all_items

pub returns-clause-zones : goal.returns-clause-zones
returns-clause-zones c = zones_are_added

pub returns-clause-steps : goal.returns-clause-steps
returns-clause-steps c = steps_are_done
