use Rattle.std.proofs.Common.{◌≡◌, take}
use Rattle.dnw_signed.specs.Inside.Selecting.{IsSelecting}
use Rattle.dnw_signed.proofs.covering.covered.Given as goal

abbrev pub invariant-records : goal.invariant-records
invariant-records l = IsSelecting l.fn.rrsig l.fn.own.fields.now (take l.item-index l.fn.records) l.list l.left × (l.number ≡ l.item-index)
