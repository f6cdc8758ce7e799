use Rattle.std.proofs.Common.{refl, arith}
use Rattle.dnw_name_text.specs.Inside.TextReader.{name_from}
use Rattle.dnw_name_text.proofs.ascii.read_by_parts.Goals as goal

pub loop-rest-init : goal.loop-rest-init
unfolding name_from
loop-rest-init c =
    let new = c.new-reader.ensures in
    record { name = rw (new.form, c.new.ensures, new.label, new.state) refl; len = rw (new.label, new.state) (omega arith); utf8 = c.utf8.text }
