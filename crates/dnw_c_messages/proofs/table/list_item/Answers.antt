use Rattle.dnw_c_messages.proofs.table.list_item.Goals as goal

pub returns-in-Queries-clause-ok : goal.returns-in-Queries-clause-ok
returns-in-Queries-clause-ok c = rw c.in-Queries.is c.list_question.ensures.ok
