use Rattle.dnw_signed.proofs.fields.put_field.Goals as goal

pub returns-in-Name-clause-ok : goal.returns-in-Name-clause-ok
returns-in-Name-clause-ok c = rw c.in-Name.is c.put_name.ensures.ok
