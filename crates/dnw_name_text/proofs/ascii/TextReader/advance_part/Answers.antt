-- Escapes and a run are added whole; any other character is taken alone.
use Rattle.std.proofs.Common.{◌∙◌}
use Rattle.std.proofs.lemmas.Result.{err_from_is_err_and}
use Rattle.std.proofs.Math.Nat.{sub-zero}
use Rattle.std.proofs.lemmas.Str.{chars_past_char}
use Rattle.dnw_name_text.proofs.TextReading.{name_from_begins}
use Rattle.dnw_name_text.proofs.ascii.TextReader.advance_part.Goals as goal

pub returns-in-Some-clause-ok : goal.returns-in-Some-clause-ok
returns-in-Some-clause-ok c =
    c.take_escapes.ensures.name
    ∙ rw c.range_from.ensures.value (name_from_begins c.args.self.now _ _ _ 4 c.in-Outside.is c.in-Some.ensures c.push.ensures.alike)

pub returns-then-run-gt0-clause-ok : goal.returns-then-run-gt0-clause-ok
returns-then-run-gt0-clause-ok c =
    let alike = simp (c.range.ensures.value, sub-zero) at c.push_run.ensures.alike in
    rw c.range_from-then-run-gt0.ensures.value (name_from_begins c.args.self.now _ _ _ _ c.in-Outside.is c.run_of-run.ensures alike)

pub returns-in_err-take-clause-err : goal.returns-in_err-take-clause-err
returns-in_err-take-clause-err c =
    let p = err_from_is_err_and c.from_residual.result c.from_residual.ensures.1 in
    let steps = rw (c.unwrap-c.ensures, c.chars-chars.ensures.rest) at c.next.ensures.steps in
    rw (p.1, p.2, chars_past_char _ _ _ c.utf8.text steps.0) (c.in_err-take.ensures.err _)

pub returns-clause-ok : goal.returns-clause-ok
returns-clause-ok c =
    let steps = rw (c.unwrap-c.ensures, c.chars-chars.ensures.rest) at c.next.ensures.steps in
    rw (c.as_str.ensures, chars_past_char _ _ _ c.utf8.text steps.0) (c.in_ok-take.ensures.ok _)
