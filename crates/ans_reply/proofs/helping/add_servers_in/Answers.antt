use Rattle.std.proofs.Common.{◌∙◌, List, ap, sym, arith, min}
use Rattle.dns_names_wire.specs.Words.{RecordValue}
use Rattle.ans_answer.specs.Answers.{records_of_type}
use Rattle.ans_answer.specs.Seen.{all_labels}
use Rattle.ans_reply.specs.Sections.{servers_of}
use Rattle.ans_reply.proofs.Ranges.{range_clipped}
use Rattle.ans_reply.proofs.Servers.{servers_end, servers_step}
use Rattle.ans_reply.proofs.helping.add_servers_in.Goals as goal

pub records-preserved : goal.records-preserved
records-preserved c =
    servers_step (all_labels c.records.servers.items) (all_labels c.add_wanted_server.new.servers.items) c.args.zone.now.records c.args.code c.records.number c.min-end.result
    c.get.result (omega arith) (omega (arith, c.min-end.ensures)) c.get.ensures c.in_ok-add_wanted_server.ensures
    ∙ c.records.invariant

pub returns : goal.returns
returns c =
    let zs = c.args.zone.now.records in
    sym (servers_end (all_labels c.records.servers.items) zs c.args.code c.records.number c.min-end.result (omega arith))
    ∙ (c.records.invariant
    ∙ ap (λ (rs : List RecordValue). servers_of (all_labels c.args.servers.now.items) (records_of_type c.args.code rs))
    (range_clipped zs c.args.node.start c.args.node.end c.min-end.result (c.min-end.ensures ∙ ap (min c.args.node.end) c.len.ensures)))
