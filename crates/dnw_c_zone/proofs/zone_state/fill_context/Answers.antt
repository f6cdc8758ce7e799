use Rattle.dnw_c_zone.proofs.StateNames.{lacks_origin, lacks_owner, owner_name}
use Rattle.dnw_c_zone.specs.ZoneStates.{owner_octets}
use Rattle.dnw_c_zone.proofs.zone_state.fill_context.Goals as goal

pub returns-then-not-fill_origin-clause-is : goal.returns-then-not-fill_origin-clause-is
returns-then-not-fill_origin-clause-is c =
    lacks_origin c.args.zone.now c.front_of.result.now c.front_of.ensures.is (rw c.if-not-fill_origin.true at c.fill_origin.ensures)

pub returns-then-not-fill_owner-clause-is : goal.returns-then-not-fill_owner-clause-is
returns-then-not-fill_owner-clause-is c =
    lacks_owner c.args.zone.now c.front_of-owner.result.now c.front_of-owner.ensures.is (rw c.if-not-fill_owner.true at c.fill_owner.ensures)

pub returns-clause-is : goal.returns-clause-is
returns-clause-is c =
    let origin = rw (c.if-not-fill_origin.false, c.front_of.ensures.is) at c.fill_origin.ensures in
    let owner = rw (c.if-not-fill_owner.false, c.front_of-owner.ensures.is) at c.fill_owner.ensures in
    let (name, is, same) = owner_name (owner_octets c.args.zone.now) c.fill_owner.new.owner owner in
    (name, origin, is, same, c.time_of-context.ensures, c.time_of-context-2.ensures, c.time_of-context-3.ensures, c.from-context.ensures.gives)
