use Rattle.std.proofs.Common.{◌≡◌}
use Rattle.ans_reply.proofs.Once.{first_from}
use Rattle.ans_reply.proofs.section.first_of.Given as goal

abbrev pub invariant-records : goal.invariant-records
invariant-records l = first_from l.zone.records l.code l.number l.end ≡ first_from l.zone.records l.code l.fn.node.start l.end
