use Rattle.std.proofs.Common.{◌≡◌, ◌+◌}
use Rattle.ans_response.specs.Counted.{AreTargets, Targets}
use Rattle.ans_response.specs.Meanings.{heard_of, max_aliases, meant_by}
use Rattle.ans_response.proofs.meaning.follow.Given as goal

abbrev pub invariant-aliases : goal.invariant-aliases
invariant-aliases l = (target : Targets) → AreTargets target
    → meant_by l.left l.asked (heard_of target l.asked l.message) l.name.labels ≡ meant_by (max_aliases + 1) l.asked (heard_of target l.asked l.message) l.asked.name

abbrev pub decreases-aliases : goal.decreases-aliases
decreases-aliases l = l.left
