use Rattle.std.proofs.Common.{refl}
use Rattle.dnw_commands.specs.Asking.{SaysEdns}
use Rattle.dnw_commands.proofs.queries.written.write_query.Goals as goal

pub returns-else-asked-clause-ok : goal.returns-else-asked-clause-ok
unfolding SaysEdns
returns-else-asked-clause-ok c =
    let none = c.if-asked.false in
    (c.write_question.new.writer, c.write_question.new.message, c.in_ok-write_question.ensures.ok, rw none (refl, refl))
