use Rattle.std.proofs.Common.{◌+◌, ap, ◌∙◌, length, length-append, arith}
use Rattle.dnw_message_writer.specs.CompressedNames.{put_at}
use Rattle.dnw_message_writer.proofs.Puts.{put_at_put_at}
use Rattle.dnw_message_writer.proofs.names.put_parts.Goals as goal

pub returns-clause-some : goal.returns-clause-some
returns-clause-some c =
    let m = c.args.message.now in
    let at = c.args.at in
    let front = c.args.front.now in
    let last = c.args.last.now in
    let size = length-append front last in (
      c.put_at.ensures ∙ ap (λ x. put_at x (at + length front) last) c.put_front.ensures
          ∙ put_at_put_at m at (at + length front) front last (omega arith) (omega (arith, c.requires)),
      omega (arith, size),
      omega (arith, c.if-front-room.false, c.if-last-room.false, c.requires),
    )
