use Rattle.std.proofs.Common.{◌≡◌, ◌≤◌, length, drop}
use Rattle.dnw_message_writer.specs.Hints.{hash_of}
use Rattle.dnw_message_writer.proofs.hints.hash_of.Given as goal

abbrev pub invariant-octets : goal.invariant-octets
invariant-octets l = record {
  inside : l.index ≤ length l.octets;
  so_far : l.hash ≡ hash_of (drop l.index l.octets);
}

-- the octets are taken from the last one on
abbrev pub decreases-octets : goal.decreases-octets
decreases-octets l = l.index
