use Rattle.ans_transfer.proofs.Steps.{changes_end, ends_are_changes}
use Rattle.ans_transfer.proofs.laws.ends_are_changes.Goals as goal

pub returns-clause-changes : goal.returns-clause-changes
returns-clause-changes c = ends_are_changes

pub returns-clause-end : goal.returns-clause-end
returns-clause-end c = changes_end
