use Rattle.std.proofs.Common.{◌-◌, length}
use Rattle.dnw_write.specs.EncoderValue.{value, lender}
use Rattle.dnw_c_names.proofs.Lists.{HasWritten}
use Rattle.dnw_c_names.proofs.names.write_names.Given as goal

abbrev pub invariant-list : goal.invariant-list
invariant-list l =
    HasWritten l.names (value l.initial.encoder) (lender l.initial.encoder)
    l.decoder l.left (value l.encoder) (lender l.encoder) l.count

abbrev pub decreases-list : goal.decreases-list
decreases-list l = length l.names - l.decoder.index
