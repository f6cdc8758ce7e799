-- What is written is the form of the labels with one more.
use Rattle.dnw_name_form.proofs.Wires.{IsWire_push}
use Rattle.dnw_name_form.proofs.form.push_label.Goals as goal

pub returns-clause-wire : goal.returns-clause-wire
returns-clause-wire c =
    rw (c.push.ensures, c.extend.ensures, c.set.ensures, c.len-end.ensures.size)
    (IsWire_push _ _ c.requires.wire c.requires.label c.requires.room).0

pub returns-clause-labels : goal.returns-clause-labels
returns-clause-labels c =
    rw (c.push.ensures, c.extend.ensures, c.set.ensures, c.len-end.ensures.size)
    (IsWire_push _ _ c.requires.wire c.requires.label c.requires.room).1
