use Rattle.std.proofs.Common.{◌+◌, drop, arith}
use Rattle.std.proofs.lemmas.List.{drop_all}
use Rattle.dnw_message_writer.proofs.Fitting.{none_fit, one_fits}
use Rattle.dnw_message_writer.proofs.Going.{left_from}
use Rattle.dnw_message_writer.proofs.whole.fit_whole.Goals as goal

pub loop-piece-preserved : goal.loop-piece-preserved
loop-piece-preserved c = λ rest.
    let i = c.loop-piece.piece-index in
    let pieces = c.args.pieces.now in
    c.loop-piece.invariant
    (one_fits c.loop-piece.left c.piece-item.result (drop (i + 1) pieces) (drop i pieces) c.whole_size-size.result
    (left_from pieces i c.piece-item.result c.loop-piece-test.true c.piece-item.is) c.whole_size-size.ensures.size c.whole_size-size.ensures.labels
    c.if-size-left.false rest)

pub returns : goal.returns
returns c = λ yes.
    c.loop-piece.invariant
    (none_fit c.loop-piece.left (drop c.loop-piece.piece-index c.args.pieces.now)
    (drop_all c.loop-piece.piece-index c.args.pieces.now (omega (arith, c.loop-piece-test.false))))
