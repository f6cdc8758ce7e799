use Rattle.ans_transfer.proofs.Moves.{splits_dont_matter}
use Rattle.ans_transfer.proofs.laws.splits_dont_matter.Goals as goal

pub returns : goal.returns
returns c = splits_dont_matter
