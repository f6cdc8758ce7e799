use Rattle.std.proofs.Common.{refl, sym}
use Rattle.dnw_name_arpa.specs.Arpa.{NoFamily, NotUtf8, UnknownFamily}
use Rattle.dnw_name_arpa.proofs.reading.read_below_arpa.Goals as goal

pub returns-in_default : goal.returns-in_default
returns-in_default c = (NoFamily, rw c.in_default.ensures refl, refl)

pub returns-in_default-text_of : goal.returns-in_default-text_of
returns-in_default-text_of c = (NotUtf8, rw (c.in-Some.ensures, c.in_default-text_of.ensures) refl, refl)

pub returns-else-is_label-2 : goal.returns-else-is_label-2
returns-else-is_label-2 c =
    let first = rw c.in-Some-text_of.ensures.0 at c.if-is_label.ensures in
    let second = rw c.in-Some-text_of.ensures.0 at c.if-is_label-2.ensures in
    (UnknownFamily, rw (c.in-Some.ensures, c.in-Some-text_of.ensures.1, sym first, sym second) refl, refl)
