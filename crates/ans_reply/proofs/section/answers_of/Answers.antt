use Rattle.ans_reply.proofs.Once.{answers_made}
use Rattle.ans_reply.proofs.section.answers_of.Goals as goal

pub returns : goal.returns
returns c =
    answers_made c.args.zone.now.records c.args.asked.now.labels c.as_slice-names.result.now c.args.answer.now.names.items c.as_slice-names.ensures.value
    c.as_slice-aliases.result.now c.args.answer.now.aliases.items c.args.answer.now.data c.new-records.result.items c.add_parts.new.records.items c.add_some.new.records.items
    c.as_slice-aliases.ensures.value c.new-records.ensures.items c.in_ok-add_parts.ensures c.in_ok-add_some.ensures
