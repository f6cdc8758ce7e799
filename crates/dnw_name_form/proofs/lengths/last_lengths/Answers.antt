use Rattle.std.proofs.Common.{◌≡◌, length, take, arith}
use Rattle.std.proofs.lemmas.List.{length-take-le}
use Rattle.dnw_name_form.proofs.LastLengths.{Passed_start, Passed_next, Passed_all}
use Rattle.dnw_name_form.proofs.OpenWires.{open_front}
use Rattle.dnw_name_form.proofs.lengths.last_lengths.Goals as goal

pub labels-init : goal.labels-init
labels-init c = record { passed = Passed_start _ c.requires; some = λ less. absurd (omega (arith, less)) }

pub split_at-requires : goal.split_at-requires
split_at-requires c = (open_front _ _ _ c.labels.invariant.passed.wire c.in-Some.ensures.cases.0).fits

pub labels-preserved : goal.labels-preserved
labels-preserved c =
    let first = open_front _ _ _ c.labels.invariant.passed.wire c.in-Some.ensures.cases.0 in
    let len = length-take-le c.in-Some.len.now c.in-Some.others.now first.fits in
    rw (c.split_at.ensures.back, c.with_length-lengths.ensures) (record {
      passed = Passed_next _ _ _ _ _ c.labels.invariant.passed first;
      some = λ _. omega (arith, len, first.is_label.not_empty);
    })

pub returns-clause-lengths : goal.returns-clause-lengths
returns-clause-lengths c = Passed_all _ _ _ c.labels.invariant.passed c.in_default.ensures.cases
