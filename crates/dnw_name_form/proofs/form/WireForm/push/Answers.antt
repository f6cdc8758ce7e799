-- The length of the new label is known, with those of the last ones before it.
use Rattle.std.proofs.Common.{◌∷◌, [], reverse, arith}
use Rattle.std.proofs.lemmas.List.{reverse-append}
use Rattle.dnw_name_form.specs.Inside.WireBytes.{labels_of}
use Rattle.dnw_name_form.proofs.LastLengths.{one_more}
use Rattle.dnw_name_form.proofs.form.WireForm.push.Goals as goal

pub invariant_of-self : goal.invariant_of-self
invariant_of-self c = (
  c.push_label.ensures.wire,
  rw (c.push_label.ensures.labels, reverse-append (labels_of c.self.inside.bytes) (c.args.label.now ∷ []), c.with_length-self-inside.ensures)
      (one_more c.args.label.now (reverse (labels_of c.self.inside.bytes)) c.self.inside.lengths (omega (arith, c.requires.not_long)) c.self.invariant.1),
)
