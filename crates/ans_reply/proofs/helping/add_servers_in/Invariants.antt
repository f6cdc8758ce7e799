use Rattle.std.proofs.Common.{◌≡◌}
use Rattle.ans_answer.specs.Seen.{all_labels}
use Rattle.ans_reply.proofs.Servers.{servers_from}
use Rattle.ans_reply.proofs.helping.add_servers_in.Given as goal

abbrev pub invariant-records : goal.invariant-records
invariant-records l =
    servers_from l.zone.records l.code l.number l.end (all_labels l.servers.items)
    ≡ servers_from l.zone.records l.code l.fn.node.start l.end (all_labels l.fn.servers.items)
