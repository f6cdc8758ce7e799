use Rattle.std.proofs.Common.{refl, sym}
use Rattle.dnw_name_arpa.specs.Arpa.{NotArpa, NotUtf8}
use Rattle.dnw_name_arpa.proofs.reading.read_net.Goals as goal

pub returns-in_default : goal.returns-in_default
returns-in_default c = (NotArpa, rw c.in_default.ensures refl, refl)

pub returns-in_default-text_of : goal.returns-in_default-text_of
returns-in_default-text_of c = (NotUtf8, rw (c.in-Some.ensures, c.in_default-text_of.ensures) refl, refl)

pub returns-then-not-is_label : goal.returns-then-not-is_label
returns-then-not-is_label c =
    let other = rw c.in-Some-text_of.ensures.0 at c.if-not-is_label.ensures in
    (NotArpa, rw (c.in-Some.ensures, c.in-Some-text_of.ensures.1, sym other) refl, refl)
