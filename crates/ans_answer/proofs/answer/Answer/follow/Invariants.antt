use Rattle.ans_answer.proofs.Steps.{IsSoFar}
use Rattle.ans_answer.proofs.answer.Answer.follow.Given as goal

abbrev pub invariant-aliases : goal.invariant-aliases
invariant-aliases l = IsSoFar l.zone l.code l.name.labels l.self l.number l.last.labels
