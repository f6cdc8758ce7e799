-- The records before the first other one are members.
use Rattle.std.proofs.Common.{[], refl}
use Rattle.dnw_signed.proofs.canonical.check.Goals as goal

pub records-init : goal.records-init
records-init c = record { done = []; split = refl; members = tt }
