-- Each octet tells whether the octets after it may go on to a form.
use Rattle.std.proofs.Common.{refl, inl, inr, arith}
use Rattle.dnw_c_names.proofs.Walks.{Walked_all, Walked_fault, Walked_next}
use Rattle.dnw_c_names.proofs.wire_form.open_lengths.Goals as goal
use Rattle.dnw_c_names.proofs.wire_form.open_lengths.Goals.{then-len-eq0-via-then-len-eq0, then-len-eq0-via-else-len-eq0+then-len-gt-MAX_LABEL}

pub returns-then-len-eq0 : goal.returns-then-len-eq0
returns-then-len-eq0 c = elim c.then-len-eq0.branch [
  | then-len-eq0-via-then-len-eq0 b ↦ Walked_fault _ _ _ _ c.labels-test.true refl (inl b.if-len-eq0.true) c.labels.invariant
  | then-len-eq0-via-else-len-eq0+then-len-gt-MAX_LABEL b ↦ Walked_fault _ _ _ _ c.labels-test.true refl (inr b.if-len-gt-MAX_LABEL.true) c.labels.invariant
]

pub labels-preserved : goal.labels-preserved
labels-preserved c =
    rw c.from.ensures (Walked_next _ _ _ _ c.requires c.labels-test.true refl c.if-len-eq0.false (omega (arith, c.if-len-gt-MAX_LABEL.false)) c.labels.invariant)

pub returns-then-at-labels : goal.returns-then-at-labels
returns-then-at-labels c = Walked_all _ _ _ c.if-at-labels.true c.labels.invariant
