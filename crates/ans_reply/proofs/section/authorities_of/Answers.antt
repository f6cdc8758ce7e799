use Rattle.ans_reply.proofs.Once.{authorities_made}
use Rattle.ans_reply.proofs.section.authorities_of.Goals as goal

pub returns : goal.returns
returns c =
    authorities_made c.args.zone.now.records c.args.asked.now.labels c.as_slice-names.result.now c.args.answer.now.names.items c.as_slice-names.ensures.value
    c.args.answer.now.authority c.new-records.result.items c.add_some.new.records.items c.new-records.ensures.items c.in_ok-add_some.ensures
