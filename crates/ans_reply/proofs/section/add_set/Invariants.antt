use Rattle.std.proofs.Common.{◌≡◌}
use Rattle.ans_reply.specs.Sections.{each_once}
use Rattle.ans_reply.proofs.Once.{wanted_from}
use Rattle.ans_reply.proofs.section.add_set.Given as goal

abbrev pub invariant-records : goal.invariant-records
invariant-records l =
    each_once l.records.items (wanted_from l.zone.records l.role l.code l.number l.end)
    ≡ each_once l.fn.records.items (wanted_from l.zone.records l.role l.code l.fn.node.start l.end)
