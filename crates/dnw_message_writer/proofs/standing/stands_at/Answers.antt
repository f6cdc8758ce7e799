use Rattle.std.proofs.Common.{arith, refl}
use Rattle.dnw_message_writer.proofs.Stands.{follows_inside, stands_not, stands_on}
use Rattle.dnw_message_writer.proofs.Wholes.{whole_stands}
use Rattle.dnw_message_writer.proofs.standing.stands_at.Goals as goal

pub returns-then-not-is_there : goal.returns-then-not-is_there
returns-then-not-is_there c = (
  λ yes. absurd cc,
  λ stands. absurd (stands_not c.args.message.now c.args.gap c.labels.spot c.followed-here.result c.labels.rest c.next.new.self c.in-Some.label.now
      c.as_wire-suffix.result.now c.followed-here.ensures c.in-Some.ensures.steps c.as_wire-suffix.ensures.form (λ there. let yes = c.if-not-is_there.ensures.1 there in cc)
      (c.labels.invariant.same.0 stands)),
)

pub labels-preserved : goal.labels-preserved
labels-preserved c =
    let on = stands_on c.args.message.now c.args.gap c.labels.spot c.followed-here.result c.labels.rest c.next.new.self c.in-Some.label.now
    c.as_wire-suffix.result.now c.followed-here.ensures c.in-Some.ensures.steps c.as_wire-suffix.ensures.form (c.if-not-is_there.ensures.0 refl) in
    let (limit, order) = follows_inside c.args.message.now c.args.gap c.labels.spot c.followed-here.result c.labels.invariant.limit c.labels.invariant.order c.followed-here.ensures in
    record {
      same = (λ stands. on.0 (c.labels.invariant.same.0 stands), λ more. c.labels.invariant.same.1 (on.1 more));
      limit = limit;
      order = omega (arith, order);
    }

pub returns-then-is_whole : goal.returns-then-is_whole
returns-then-is_whole c =
    let (there, fits) = c.is_whole.ensures c.if-is_whole.true in
    let form = c.as_wire-suffix.ensures.form in
    let stands = whole_stands c.args.message.now c.args.gap c.labels.spot c.followed-here.result c.labels.rest c.followed-here.ensures
    c.as_wire-suffix.ensures.labels.each (rw form at there) (rw form at fits) in
    (λ yes. c.labels.invariant.same.1 stands, λ at. refl)
