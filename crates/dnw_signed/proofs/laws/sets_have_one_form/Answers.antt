use Rattle.dnw_signed.proofs.SameSets.{depends_on_set, keeps_in_any_order}
use Rattle.dnw_signed.proofs.laws.sets_have_one_form.Goals as goal

pub returns : goal.returns
returns c = record { same = depends_on_set; any_order = keeps_in_any_order }
