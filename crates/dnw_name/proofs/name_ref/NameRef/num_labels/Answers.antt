use Rattle.std.proofs.Common.{arith}
use Rattle.dnw_name_read.proofs.Found.{NameAt_few}
use Rattle.dnw_name.proofs.name_ref.NameRef.num_labels.Goals as goal

pub overflow_cast-result : goal.overflow_cast-result
overflow_cast-result c = omega (arith, NameAt_few _ _ _ _ _ c.self.invariant.stands.name, c.self.invariant.stands.count_is)
