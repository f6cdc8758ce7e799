use Rattle.std.proofs.Common.{◌≡◌, ap, ◌∙◌}
use Rattle.std.specs.Prelude.{Ok}
use Rattle.dnw_zone_file.specs.declared.step.Found.TheVariants.{Entry as IsOne}
use Rattle.dnw_zone_file.proofs.Decided.{lacks, takes}
use Rattle.dnw_zone_file.proofs.zone_text.next_entry.Goals as goal

pub returns-in-Entry-clause-ok : goal.returns-in-Entry-clause-ok
returns-in-Entry-clause-ok c =
    let is : c.in-Ok.found ≡ IsOne c.in-Entry.entry = rw c.in-Ok.is at c.in-Entry.is in
    takes _ _ _ c.take_entry-step.result _ c.take_entry-step.ensures.is (c.in-Ok.is ∙ ap Ok is)

pub returns-in-Err-clause-err : goal.returns-in-Err-clause-err
returns-in-Err-clause-err c = lacks _ _ _ c.take_entry-step.result _ c.take_entry-step.ensures.is c.in-Err.is
