use Rattle.std.proofs.Common.{◌-◌, length}
use Rattle.dnw_c_names.proofs.Named.{HasKeyed}
use Rattle.dnw_c_names.proofs.sorting.keyed.Given as goal

abbrev pub invariant-list : goal.invariant-list
invariant-list l = HasKeyed l.names l.decoder l.left l.keys

abbrev pub decreases-list : goal.decreases-list
decreases-list l = length l.names - l.decoder.index
