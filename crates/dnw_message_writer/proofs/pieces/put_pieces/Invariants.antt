use Rattle.std.proofs.Common.{drop}
use Rattle.dnw_message_writer.specs.Hints.{slot_of}
use Rattle.dnw_message_writer.specs.Inside.Going.{Gone}
use Rattle.dnw_message_writer.proofs.pieces.put_pieces.Given as goal

abbrev pub invariant-loop-piece : goal.invariant-loop-piece
invariant-loop-piece l = Gone slot_of l.limit l.fn.message l.at l.gap l.fn.hints l.fn.pieces l.message l.end l.hints (drop l.piece-index l.fn.pieces)
