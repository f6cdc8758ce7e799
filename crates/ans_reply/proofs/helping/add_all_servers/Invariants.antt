use Rattle.std.proofs.Common.{◌≡◌, drop}
use Rattle.std.specs.List.{flat_map}
use Rattle.ans_answer.specs.Seen.{all_labels}
use Rattle.ans_reply.specs.Inside.Roles.{owned_in}
use Rattle.ans_reply.specs.Sections.{servers_of}
use Rattle.ans_reply.proofs.helping.add_all_servers.Given as goal

abbrev pub invariant-parts : goal.invariant-parts
invariant-parts l =
    servers_of (all_labels l.servers.items) (flat_map (owned_in l.zone.records) (drop l.part-index l.parts))
    ≡ servers_of (all_labels l.fn.servers.items) (flat_map (owned_in l.zone.records) l.parts)
