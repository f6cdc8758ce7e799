use Rattle.std.proofs.Common.{◌≡◌, ◌-◌, ◌≤◌, length, take}
use Rattle.dns_names_wire.specs.Words.{EmitsRecord, InTurn, value, lender}
use Rattle.uses.specs.Records.{IsReady}
use Rattle.uses.proofs.records.write_first.Given as goal

-- so many records were written
abbrev pub invariant-records : goal.invariant-records
invariant-records l =
    InTurn EmitsRecord (value l.fn.encoder) (take l.count l.records) (value l.encoder) × IsReady (value l.encoder) × (l.count ≤ length l.records)
    × (lender l.encoder ≡ lender l.fn.encoder)

abbrev pub decreases-records : goal.decreases-records
decreases-records l = length l.records - l.count
