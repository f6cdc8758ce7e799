-- An escape is added to the label, and the text goes on after it.
use Rattle.std.proofs.Common.{◌∙◌, arith}
use Rattle.dnw_name_text.proofs.TextReading.{name_from_begins}
use Rattle.dnw_name_text.proofs.ascii.TextReader.take_escapes.Goals as goal

pub escapes-preserved : goal.escapes-preserved
escapes-preserved c =
    let invariant = c.escapes.invariant in
    let escape = c.in-Some.ensures in
    record {
      name = rw c.range_from-rest.ensures.value (name_from_begins c.escapes.self _ _ _ 4 invariant.outside escape c.push.ensures.alike ∙ invariant.name);
      outside = invariant.outside;
      len = omega (arith, invariant.len, c.push.ensures.len, escape.few, escape.inside, c.range_from-rest.ensures.len);
      shorter = omega (arith, invariant.shorter, c.range_from-rest.ensures.len);
      utf8 = c.range_from-rest.utf8;
    }
