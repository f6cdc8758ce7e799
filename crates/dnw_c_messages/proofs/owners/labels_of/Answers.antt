-- Octets that are the wire form of a name are read as it.
use Rattle.std.proofs.Common.{ap, arith, length}
use Rattle.dnw_c_messages.proofs.Forms.{whole_form}
use Rattle.dnw_c_messages.proofs.owners.labels_of.Goals as goal

pub returns-then-end-form-clause-ok : goal.returns-then-end-form-clause-ok
returns-then-end-form-clause-ok c =
    let form = c.args.form.now in
    let has = c.in-Some.ensures.some in
    whole_form form c.in-Some.labels has.0 has.1 (omega (arith, c.if-end-form.true, ap length c.as_wire-end.ensures.form))
