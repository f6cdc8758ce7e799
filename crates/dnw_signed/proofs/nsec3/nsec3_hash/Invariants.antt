use Rattle.std.proofs.Common.{◌≡◌}
use Rattle.dnw_base.specs.Names.{lower, wire}
use Rattle.dnw_signed.specs.HashedNames.{iterated_hash}
use Rattle.dnw_signed.proofs.nsec3.nsec3_hash.Given as goal

abbrev pub invariant-iterations : goal.invariant-iterations
invariant-iterations l = l.hash ≡ iterated_hash l.salt (wire (lower l.name.labels)) l.i
