use Rattle.std.proofs.Common.{take}
use Rattle.std.specs.List.{flat_map}
use Rattle.dnw_signed.specs.ZoneDigests.{zone_record}
use Rattle.dnw_signed.proofs.zone_digest.hash_of_records.Given as goal

abbrev pub invariant-records : goal.invariant-records
invariant-records g l = g.H.Digest.holds l.hasher (flat_map zone_record (take l.item-index l.zone))
