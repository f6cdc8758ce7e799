use Rattle.std.proofs.Common.{◌≡◌, take}
use Rattle.dnw_signed.specs.Inside.Selecting.{OnlyFound}
use Rattle.dnw_signed.proofs.covering.only_covered.Given as goal

abbrev pub invariant-records : goal.invariant-records
invariant-records l = OnlyFound l.fn.rrsig l.fn.own.fields.now (take l.item-index l.fn.records) l.only × (l.number ≡ l.item-index)
