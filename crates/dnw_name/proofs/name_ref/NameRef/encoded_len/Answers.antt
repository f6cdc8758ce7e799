use Rattle.std.proofs.Common.{subst}
use Rattle.dnw_base.specs.Names.{AreLabels}
use Rattle.dnw_name_read.proofs.Found.{StandsAt_labels}
use Rattle.dnw_name.proofs.name_ref.NameRef.encoded_len.Goals as goal

pub returns-clause-labels : goal.returns-clause-labels
returns-clause-labels c = subst AreLabels c.self.view_is (StandsAt_labels c.self.invariant.stands)
