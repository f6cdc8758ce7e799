use Rattle.dnw_message_writer.proofs.Splitting.{name_field}
use Rattle.dnw_message_writer.proofs.data.first_field.Goals as goal

pub returns-in_ok-labels-in-Name-clause-some : goal.returns-in_ok-labels-in-Name-clause-some
returns-in_ok-labels-in-Name-clause-some c =
    rw c.in-Name.is
    (name_field c.in-Name.field-0 c.in_ok-labels-in-Name.labels c.args.octets.now c.as_wire.result.now c.as_wire.ensures.labels c.as_wire.ensures.form
    c.in_ok-labels-in-Name.ensures.some.1)
