use Rattle.dnw_name_form.proofs.LabelOrders.{labels_preorder}
use Rattle.dnw_name_form.proofs.label.Label.cmp_with_f.Goals as goal

pub returns-clause-total : goal.returns-clause-total
returns-clause-total g c = labels_preorder g.met.F.LabelCmp.total
