use Rattle.std.proofs.Common.{[], ◌∷◌, ◌++◌, refl, sym, ◌∙◌}
use Rattle.std.proofs.lemmas.List.{nil_from_length}
use Rattle.dnw_zone_record.specs.declared.scan.Octet.TheVariants.{End, Wrong as IsWrong}
use Rattle.dnw_zone_record.specs.declared.scan.Ending.TheVariants.{Line, Wrong}
use Rattle.dnw_zone_record.proofs.Runs.{plain_ended, plain_run, plain_step, plain_whole}
use Rattle.dnw_zone_record.proofs.scan.plain_line.Goals as goal

pub runs-preserved : goal.runs-preserved
runs-preserved c =
    let (so, whole, is) = c.runs.invariant in
    let (more, all, from) = plain_run c.runs.place c.args.text.now so c.runs.left.now c.split_kept.result.1.now whole is c.split_kept.ensures.others in
    let step = plain_step c.runs.place c.in-Kept.next c.args.text.now more c.split_kept.result.1.now c.in-Some.rest.now c.in-Some.c.now all from c.in-Some.ensures.cases.0 (sym c.octet_of.ensures ∙ c.in-Kept.is) in
    (more ++ c.in-Some.c.now ∷ [], step.0, step.1)

pub returns-in-End-clause-line : goal.returns-in-End-clause-line
returns-in-End-clause-line c =
    let (so, whole, is) = c.runs.invariant in
    let (more, all, from) = plain_run c.runs.place c.args.text.now so c.runs.left.now c.split_kept.result.1.now whole is c.split_kept.ensures.others in
    plain_ended c.runs.place c.args.text.now more c.split_kept.result.1.now c.in-Some.rest.now c.up_to.result.now c.in-Some.c.now End Line all from c.in-Some.ensures.cases.0
    (sym c.octet_of.ensures ∙ c.in-End.is) refl c.up_to.ensures

pub returns-in-Wrong-clause-line : goal.returns-in-Wrong-clause-line
returns-in-Wrong-clause-line c =
    let (so, whole, is) = c.runs.invariant in
    let (more, all, from) = plain_run c.runs.place c.args.text.now so c.runs.left.now c.split_kept.result.1.now whole is c.split_kept.ensures.others in
    plain_ended c.runs.place c.args.text.now more c.split_kept.result.1.now c.in-Some.rest.now c.up_to-in-Wrong.result.now c.in-Some.c.now (IsWrong c.in-Wrong.rule) (Wrong c.in-Wrong.rule) all from c.in-Some.ensures.cases.0
    (sym c.octet_of.ensures ∙ c.in-Wrong.is) refl c.up_to-in-Wrong.ensures

pub returns-in_default-clause-line : goal.returns-in_default-clause-line
returns-in_default-clause-line c =
    let (so, whole, is) = c.runs.invariant in
    let (more, all, from) = plain_run c.runs.place c.args.text.now so c.runs.left.now c.split_kept.result.1.now whole is c.split_kept.ensures.others in
    plain_whole c.runs.place c.args.text.now more c.split_kept.result.1.now c.end_of.result all from (nil_from_length c.split_kept.result.1.now c.in_default.ensures.cases) c.end_of.ensures.is
