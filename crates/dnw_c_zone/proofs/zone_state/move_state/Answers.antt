use Rattle.std.proofs.Common.{sym, ap, ◌∙◌}
use Rattle.dnw_base.specs.Names.{wire}
use Rattle.dnw_c_zone.specs.Inside.StateNames.{with_origin_form, with_owner_form}
use Rattle.dnw_c_zone.specs.ZoneStates.{owner_form}
use Rattle.dnw_c_zone.specs.declared.zone_state.ZoneState.{ZoneState}
use Rattle.dnw_c_zone.proofs.StateRooms.{after_neither, after_origin, after_owner}
use Rattle.dnw_c_zone.proofs.StepNames.{not_both}
use Rattle.dnw_c_zone.proofs.zone_state.move_state.Goals as goal

pub returns-then-changes_origin : goal.returns-then-changes_origin
returns-then-changes_origin c = λ before is keeps.
    c.put_origin.ensures
    ∙ ap (λ (z : ZoneState). with_origin_form z (wire c.args.context.now.origin.labels)) c.put_numbers.ensures
    ∙ after_origin c.args.zone.now before c.args.context.now c.args.at is c.requires
    (keeps.owner (not_both _ (sym c.changes_origin.ensures ∙ c.if-changes_origin.true)))

pub returns-then-changes_owner : goal.returns-then-changes_owner
returns-then-changes_owner c = λ before is keeps.
    c.put_owner.ensures
    ∙ ap (λ (z : ZoneState). with_owner_form z (owner_form c.args.context.now.owner)) c.put_numbers.ensures
    ∙ after_owner c.args.zone.now before c.args.context.now c.args.at is c.requires
    (keeps.origin (sym c.changes_origin.ensures ∙ c.if-changes_origin.false))

pub returns-else-changes_owner : goal.returns-else-changes_owner
returns-else-changes_owner c = λ before is keeps.
    c.put_numbers.ensures
    ∙ after_neither c.args.zone.now before c.args.context.now c.args.at is c.requires
    (keeps.origin (sym c.changes_origin.ensures ∙ c.if-changes_origin.false), keeps.owner (sym c.changes_owner.ensures ∙ c.if-changes_owner.false))
