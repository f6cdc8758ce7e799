-- Octets that are compared in lower case are those of the lowered labels.
use Rattle.std.proofs.Common.{reverse, ◌∙◌}
use Rattle.dnw_name_order.proofs.Comparing.{slice_cmp_lowered}
use Rattle.dnw_name_order.proofs.order.cmp_forms.Goals as goal

pub returns : goal.returns
returns c =
    c.cmp_from_last.ensures
    ∙ rw (c.of_form.ensures, c.of_form-2.ensures) (slice_cmp_lowered (reverse c.args.left.now) (reverse c.args.right.now))
