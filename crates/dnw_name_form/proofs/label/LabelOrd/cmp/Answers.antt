use Rattle.std.proofs.Common.{◌∙◌, nat_cmp}
use Rattle.std.specs.Char.{to_ascii_lowercase}
use Rattle.dnw_name_form.proofs.LabelOrders.{slice_cmp_on}
use Rattle.dnw_name_form.proofs.label.LabelOrd.cmp.Goals as goal

pub returns : goal.returns
returns c = c.cmp_with_f.ensures.order ∙ slice_cmp_on to_ascii_lowercase nat_cmp c.args.self.now c.args.other.now
