-- Each label is followed by the end of the text, by a dot and more, or by a last dot.
use Rattle.std.proofs.Common.{arith}
use Rattle.dnw_name_text.proofs.PlainText.{Put_start, Put-last, Put-more, Put_end}
use Rattle.dnw_name_text.proofs.ascii.put_lengths.Goals as goal

pub labels-init : goal.labels-init
labels-init c = Put_start _ _ c.requires.copied

pub returns-then-end-text : goal.returns-then-end-text
returns-then-end-text c =
    let at = c.label_len_at-len.ensures in
    rw c.set.ensures (Put-last c.labels.invariant c.requires.fits c.label_len_at-len.result at.few (at.label (omega arith)) (omega arith))

pub returns-then-start-text : goal.returns-then-start-text
returns-then-start-text c =
    let at = c.label_len_at-len.ensures in
    let more = Put-more c.labels.invariant c.requires.fits c.label_len_at-len.result at.few (at.label (omega arith)) (omega arith) c.if-text-end-ne46.false in
    rw (c.set-then-start-text.ensures, c.set.ensures) (Put_end more c.requires.fits (omega arith))

pub labels-preserved : goal.labels-preserved
labels-preserved c =
    let at = c.label_len_at-len.ensures in
    rw c.set.ensures (Put-more c.labels.invariant c.requires.fits c.label_len_at-len.result at.few (at.label (omega arith)) (omega arith) c.if-text-end-ne46.false)
