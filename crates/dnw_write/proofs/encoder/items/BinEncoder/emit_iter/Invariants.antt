use Rattle.std.proofs.Common.{◌≡◌}
use Rattle.dnw_write.specs.EncoderValue.{value, lender}
use Rattle.dnw_write.proofs.Items.{HasEmitted}
use Rattle.dnw_write.proofs.encoder.items.BinEncoder.emit_iter.Given as goal

abbrev pub invariant-loop-item : goal.invariant-loop-item
invariant-loop-item g l =
    HasEmitted g.E.BinEncodable.emits g.I.Iterator.next_gives g.I.Iterator.can_next g.I.Iterator.remaining
    (value l.initial.self) l.initial.iter l.count (value l.self) l.iter
    × (lender l.self ≡ lender l.initial.self)
