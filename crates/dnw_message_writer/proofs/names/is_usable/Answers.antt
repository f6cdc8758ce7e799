use Rattle.std.proofs.Common.{arith}
use Rattle.dnw_message_writer.proofs.Places.{points_after_header}
use Rattle.dnw_message_writer.proofs.names.is_usable.Goals as goal

pub returns-then-start-lt-FIRST_ITEM : goal.returns-then-start-lt-FIRST_ITEM
returns-then-start-lt-FIRST_ITEM c = (
  λ yes. absurd cc,
  λ at. absurd (omega (arith, points_after_header c.args.message.now c.args.gap c.args.hint c.args.labels at, c.if-start-lt-FIRST_ITEM.true)),
)

pub returns-then-not-may_stand : goal.returns-then-not-may_stand
returns-then-not-may_stand c = (
  λ yes. absurd cc,
  λ at. absurd (c.may_stand.ensures c.if-not-may_stand.true c.args.gap c.args.labels c.as_wire.ensures.labels c.as_wire.ensures.form at.1),
)
