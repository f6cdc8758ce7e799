use Rattle.std.proofs.Common.{◌+◌, drop, arith}
use Rattle.std.proofs.lemmas.List.{drop_all}
use Rattle.dnw_message_writer.specs.Hints.{slot_of}
use Rattle.dnw_message_writer.proofs.Going.{gone_all, gone_on, gone_past, left_from}
use Rattle.dnw_message_writer.proofs.pieces.put_pieces.Goals as goal

pub returns-in_err-end-clause-none : goal.returns-in_err-end-clause-none
returns-in_err-end-clause-none c =
    let i = c.loop-piece.piece-index in
    let pieces = c.args.pieces.now in
    let split = left_from pieces i c.piece-item.result c.loop-piece-test.true c.piece-item.is in
    let past = gone_past slot_of c.args.limit c.args.message.now c.args.at c.args.gap c.args.hints.now pieces c.requires.at c.requires.limit
    c.loop-piece.invariant c.piece-item.result (drop (i + 1) pieces) c.put_piece.new.hints split c.in_err-end.ensures.none.0 in
    rw c.from_residual.ensures past

pub loop-piece-preserved : goal.loop-piece-preserved
loop-piece-preserved c =
    let i = c.loop-piece.piece-index in
    let pieces = c.args.pieces.now in
    let split = left_from pieces i c.piece-item.result c.loop-piece-test.true c.piece-item.is in
    gone_on slot_of c.args.limit c.args.message.now c.args.at c.args.gap c.args.hints.now pieces c.requires.at c.requires.limit
    c.loop-piece.invariant c.piece-item.result (drop (i + 1) pieces) c.put_piece.new.message c.put_piece.new.hints c.in_ok-end.end split
    c.in_ok-end.ensures.some.0 c.in_ok-end.ensures.some.1

pub returns-clause-some : goal.returns-clause-some
returns-clause-some c =
    let none = drop_all c.loop-piece.piece-index c.args.pieces.now (omega (arith, c.loop-piece-test.false)) in (
      gone_all slot_of c.args.limit c.args.message.now c.args.at c.args.gap c.args.hints.now c.args.pieces.now c.requires.at c.requires.limit
          c.loop-piece.invariant none,
      c.loop-piece.invariant.fits,
    )
