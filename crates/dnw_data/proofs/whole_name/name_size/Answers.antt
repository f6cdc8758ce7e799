use Rattle.std.proofs.Common.{arith}
use Rattle.dnw_data.specs.WholeNames.{name_size}
use Rattle.dnw_data.proofs.whole_name.name_size.Goals as goal

pub returns-clause-size : goal.returns-clause-size
unfolding name_size
returns-clause-size c = c.labels_size.ensures.size

pub returns-clause-few : goal.returns-clause-few
returns-clause-few c = omega (arith, c.labels_size.ensures.few)
