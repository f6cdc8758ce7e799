use Rattle.std.proofs.Common.{◌≤◌, length, drop, ap, arith}
use Rattle.std.proofs.lemmas.List.{length-drop}
use Rattle.dnw_name_text.proofs.PlainForms.{Placed_start, Placed-label, Placed_end}
use Rattle.dnw_name_text.proofs.PlainLeft.{leaves_all, leaves_more, no_label, plain_bounds, plain_last}
use Rattle.dnw_name_text.proofs.PlainRuns.{last_left, own_begins}
use Rattle.dnw_name_text.proofs.reading.put_plain_form.Goals as goal
use Rattle.dnw_name_text.proofs.reading.put_plain_form.Goals.{then-last-ne46-via-then-last-ne46, then-last-ne46-via-else-last-ne46+then-text-ge-MAX_NAME, then-len-eq0-via-then-len-eq0, then-len-eq0-via-else-len-eq0+then-len-gt-MAX_LABEL, then-len-eq0-via-else-len-eq0+else-len-gt-MAX_LABEL+then-text-end-ne46}

pub labels-init : goal.labels-init
labels-init c = record {
  placed = Placed_start _ c.args.room.now _ _ (omega arith) c.put_after_first.ensures;
  left = leaves_all c.args.text.now;
}

pub own_run_len-len-requires-clause-last : goal.own_run_len-len-requires-clause-last
own_run_len-len-requires-clause-last c = rw c.split_at.ensures.back (last_left c.args.text.now c.labels.start c.labels-test.true (omega arith))

pub labels-preserved : goal.labels-preserved
labels-preserved c =
    let at = rw c.split_at.ensures.back at c.own_run_len-len.ensures in
    let few : c.own_run_len-len.result ≤ length (drop c.labels.start c.args.text.now) = omega (arith, at.few) in
    record {
      placed = Placed-label c.labels.invariant.placed (omega arith) c.own_run_len-len.result (omega arith) (omega arith) (omega (arith, at.few, length-drop c.labels.start c.args.text.now)) (own_begins _ _ few (omega arith) at.own) (omega arith);
      left = leaves_more _ _ _ c.labels.invariant.left c.labels-test.true (record { few = few; own = at.own; most = at.most });
    }

pub returns-clause-some : goal.returns-clause-some
returns-clause-some c =
    let some : 1 ≤ length c.args.text.now = omega arith in
    let done = Placed_end c.labels.invariant.placed some (omega arith) c.labels-test.false in
    (done.labels, done.form, done.size, done.are, done.name)

pub returns-then-last-ne46-clause-none : goal.returns-then-last-ne46-clause-none
returns-then-last-ne46-clause-none c = λ labels are plain is.
    let (some, few) = plain_bounds labels are plain in
    let same = ap length is in
    elim c.then-last-ne46.branch [
      | then-last-ne46-via-then-last-ne46 w ↦ w.if-last-ne46.true (plain_last _ labels are plain is)
      | then-last-ne46-via-else-last-ne46+then-text-ge-MAX_NAME w ↦ omega (arith, few, same, w.if-text-ge-MAX_NAME.true)
    ]

pub returns-then-len-eq0-clause-none : goal.returns-then-len-eq0-clause-none
returns-then-len-eq0-clause-none c =
    let at = rw c.split_at.ensures.back at c.own_run_len-len.ensures in
    no_label _ _ _ c.labels.invariant.left c.labels-test.true (record { few = omega (arith, at.few); own = at.own; most = at.most }) (λ some short inside dotted.
    elim c.then-len-eq0.branch [
      | then-len-eq0-via-then-len-eq0 w ↦ omega (arith, some, w.if-len-eq0.true)
      | then-len-eq0-via-else-len-eq0+then-len-gt-MAX_LABEL w ↦ omega (arith, short, w.if-len-gt-MAX_LABEL.true)
      | then-len-eq0-via-else-len-eq0+else-len-gt-MAX_LABEL+then-text-end-ne46 w ↦ w.if-text-end-ne46.true dotted
    ])
