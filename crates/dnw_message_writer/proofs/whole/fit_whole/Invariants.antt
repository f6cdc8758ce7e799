use Rattle.std.proofs.Common.{drop}
use Rattle.dnw_message_writer.specs.Inside.Fitting.{FitWhole}
use Rattle.dnw_message_writer.proofs.whole.fit_whole.Given as goal

abbrev pub invariant-loop-piece : goal.invariant-loop-piece
invariant-loop-piece l = FitWhole l.left (drop l.piece-index l.pieces) → FitWhole l.room l.pieces
