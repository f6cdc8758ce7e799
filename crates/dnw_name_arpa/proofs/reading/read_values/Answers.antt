use Rattle.std.proofs.Common.{◌≡◌, ◌<◌, length, reverse, refl, sym, ap, ◌∙◌, zero-add, arith}
use Rattle.std.proofs.Math.Nat.{sub-zero}
use Rattle.std.proofs.lemmas.Result.{err_from_is_err_and}
use Rattle.dnw_name_arpa.specs.Arpa.{TooManyLabels, most_values}
use Rattle.dnw_name_arpa.specs.Inside.Reading.{prefix_after}
use Rattle.dnw_name_arpa.proofs.Values.{prefix_after_value, prefix_after_fault, prefix_after_more, IsArpaPrefix_push}
use Rattle.dnw_name_arpa.proofs.reading.read_values.Goals as goal

pub labels-init : goal.labels-init
labels-init c = rw c.new-values.ensures (record { rest = simp (sub-zero, zero-add); prefix = record { few = omega arith; fit = tt }; same = refl })

pub returns-then-len-most_values-clause-err : goal.returns-then-len-most_values-clause-err
returns-then-len-most_values-clause-err c =
    let full : length c.labels.values.items ≡ most_values c.args.family = omega arith in (
      TooManyLabels c.args.family,
      sym c.labels.invariant.rest ∙ ap (prefix_after c.args.family c.labels.values.items) c.in-Some.ensures
          ∙ prefix_after_more c.args.family c.labels.values.items c.in-Some.label.now (reverse c.next_label.new.labels) full,
      c.too_many_labels.ensures,
    )

pub returns-in_err-read_value-clause-err : goal.returns-in_err-read_value-clause-err
returns-in_err-read_value-clause-err c =
    let p = err_from_is_err_and c.from_residual.result c.from_residual.ensures.1 in
    let room : length c.labels.values.items < most_values c.args.family = omega (arith, c.labels.invariant.prefix.few) in
    let (fault, is, reports) = c.in_err-read_value.ensures.follows in
    rw (p.1, p.2) (
      fault,
      sym c.labels.invariant.rest ∙ ap (prefix_after c.args.family c.labels.values.items) c.in-Some.ensures
          ∙ prefix_after_fault c.args.family c.labels.values.items c.in-Some.label.now (reverse c.next_label.new.labels) fault room is,
      reports,
    )

pub labels-preserved : goal.labels-preserved
labels-preserved c =
    let room : length c.labels.values.items < most_values c.args.family = omega (arith, c.labels.invariant.prefix.few) in
    rw c.push.ensures.items (record {
      rest =
          prefix_after_value c.args.family c.labels.values.items c.in-Some.label.now (reverse c.next_label.new.labels) c.in_ok-read_value.field-0 room c.in_ok-read_value.ensures.follows
          ∙ ap (prefix_after c.args.family c.labels.values.items) (sym c.in-Some.ensures) ∙ c.labels.invariant.rest;
      prefix = IsArpaPrefix_push c.args.family c.labels.values.items c.in_ok-read_value.field-0 c.labels.invariant.prefix room c.in_ok-read_value.ensures.fits;
      same = refl;
    })
