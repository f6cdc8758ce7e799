use Rattle.std.proofs.Common.{◌≡◌, ◌≤◌, length, take, drop}
use Rattle.dnw_base.specs.Names.{labels_wire}
use Rattle.dnw_write.specs.EncoderValue.{value}
use Rattle.dnw_write.specs.Inside.Sharing.{NoneSharedBefore}
use Rattle.dnw_write.proofs.encoder.names.BinEncoder.find_suffix.Given as goal

-- so many labels were passed, and no suffix from one of them on is found
abbrev pub invariant-suffixes : goal.invariant-suffixes
invariant-suffixes l =
    (l.labels ≤ length l.name) × (l.rest ≡ drop l.labels l.name) × (l.size ≡ length (labels_wire (take l.labels l.name)))
    × NoneSharedBefore (value l.self) l.name l.labels

abbrev pub decreases-suffixes : goal.decreases-suffixes
decreases-suffixes l = length l.rest
