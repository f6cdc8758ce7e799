use Rattle.std.proofs.Common.{length}
use Rattle.dnw_signed.proofs.Listing.{IsCutting}
use Rattle.dnw_signed.proofs.data_list.DataList.slices.Given as goal

abbrev pub invariant-sizes : goal.invariant-sizes
invariant-sizes l = IsCutting l.self l.octets l.sizes l.all.items

abbrev pub decreases-sizes : goal.decreases-sizes
decreases-sizes l = length l.sizes
