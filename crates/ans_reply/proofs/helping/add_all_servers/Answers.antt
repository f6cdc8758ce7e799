use Rattle.std.proofs.Common.{◌∙◌, sym, arith}
use Rattle.std.proofs.lemmas.List.{drop_all, get_or_default}
use Rattle.ans_answer.specs.Seen.{all_labels}
use Rattle.ans_reply.proofs.Servers.{named_none, named_step}
use Rattle.ans_reply.proofs.helping.add_all_servers.Goals as goal

pub parts-preserved : goal.parts-preserved
parts-preserved c =
    named_step c.args.zone.now.records (all_labels c.parts.servers.items) (all_labels c.add_servers.new.servers.items) c.args.parts.now c.parts.part-index
    _ c.parts-test.true (get_or_default _ _ _ _ c.parts-test.true) c.in_ok-add_servers.ensures
    ∙ c.parts.invariant

pub returns : goal.returns
returns c =
    sym (named_none c.args.zone.now.records (all_labels c.parts.servers.items) c.args.parts.now c.parts.part-index
    (drop_all c.parts.part-index c.args.parts.now (omega (arith, c.parts-test.false))))
    ∙ c.parts.invariant
