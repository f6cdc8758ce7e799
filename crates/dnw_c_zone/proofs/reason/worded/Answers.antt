use Rattle.dnw_c_zone.proofs.reason.worded.Goals as goal

pub returns-then-of_field : goal.returns-then-of_field
returns-then-of_field c = rw c.if-of_field.true c.at_field.ensures

pub returns : goal.returns
returns c = rw c.if-of_field.false c.at_place.ensures
