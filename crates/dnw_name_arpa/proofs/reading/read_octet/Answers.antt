use Rattle.std.proofs.Common.{refl, sym, ap, ◌∙◌, Ok}
use Rattle.dnw_name_arpa.specs.Arpa.{NotUtf8, NotANumber}
use Rattle.dnw_name_arpa.proofs.Values.{octet_of_octet, octet_of_other}
use Rattle.dnw_name_arpa.proofs.reading.read_octet.Goals as goal

pub returns-in_default : goal.returns-in_default
returns-in_default c = record { follows = (NotUtf8, rw c.in_default.ensures refl, refl) }

pub returns-in-Ok : goal.returns-in-Ok
returns-in-Ok c =
    let read = rw c.in-Some.ensures.0 at c.in-Ok.ensures.value in
    record { follows = octet_of_octet c.args.label.now c.in-Some.ensures.1 read.0.0.0 read.0.0.1 ∙ ap Ok (sym read.0.1) }

pub returns-in-Err : goal.returns-in-Err
returns-in-Err c =
    let none = rw c.in-Some.ensures.0 at c.in-Err.ensures.value in
    record { follows = (NotANumber, octet_of_other c.args.label.now c.in-Some.ensures.1 none.0, refl) }
