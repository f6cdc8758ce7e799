-- Octets that are compared in lower case are those of the lowered labels.
use Rattle.std.proofs.Common.{reverse, ◌∙◌}
use Rattle.dnw_name_order.proofs.Comparing.{slice_cmp_lowered}
use Rattle.dnw_name_order.proofs.order.cmp_labels.Goals as goal

pub returns : goal.returns
returns c = c.cmp_labels_by.ensures ∙ slice_cmp_lowered (reverse c.args.left) (reverse c.args.right)
