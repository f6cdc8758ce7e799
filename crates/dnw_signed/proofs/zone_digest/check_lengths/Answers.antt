use Rattle.std.proofs.Common.{[], refl}
use Rattle.dnw_signed.proofs.zone_digest.check_lengths.Goals as goal

pub records-init : goal.records-init
records-init c = record { done = []; split = refl; fit = tt }
