-- Octets that are compared in lower case are those of the lowered labels.
use Rattle.std.proofs.Common.{◌∙◌}
use Rattle.std.proofs.lemmas.List.{reverse-reverse}
use Rattle.dnw_name_order.proofs.Comparing.{slice_cmp_lowered}
use Rattle.dnw_name_order.proofs.order.cmp_labels_from_last.Goals as goal

pub returns : goal.returns
returns c =
    c.cmp_from_last.ensures
    ∙ rw (reverse-reverse c.args.left, reverse-reverse c.args.right) (slice_cmp_lowered c.args.left c.args.right)
