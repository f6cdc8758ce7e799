use Rattle.std.proofs.Common.{◌≡◌, false, take, inl, sym, ap, ◌∙◌}
use Rattle.std.specs.Prelude.{Ok}
use Rattle.dnw_c_zone.specs.ZoneEntries.{PutsFound}
use Rattle.dnw_c_zone.specs.ZoneFileCalls.{is_generated}
use Rattle.dnw_c_zone.specs.ZonePlaces.{moved}
use Rattle.dnw_c_zone.specs.ZoneStates.{place_of_state, zone_state_of}
use Rattle.dnw_c_zone.specs.declared.zone_place.FilePlace.{FilePlace}
use Rattle.dnw_c_zone.proofs.zone_file.next.Goals as goal

pub returns-in-Ok-clause-takes : goal.returns-in-Ok-clause-takes
returns-in-Ok-clause-takes c =
    let known = rw c.if-not-fill_context.false at c.fill_context.ensures.is in
    let after = c.step_of-step.new.context in
    let step = c.step_of-step.result in
    let puts : PutsFound (place_of_state c.args.zone.now) c.args.text.now after step.used step.found c.args.octets.now c.put_found.new.octets (Ok c.put_found.new.entry) =
    rw (← c.place_of_state-at.ensures) c.in-Ok.ensures.puts in
    let at : c.moved.result ≡ moved (place_of_state c.args.zone.now) (take step.used c.args.text.now) =
    c.moved.ensures ∙ ap (λ (p : FilePlace). moved p (take step.used c.args.text.now)) c.place_of_state-at.ensures in
    let other : is_generated c.args.zone.now step ≡ false = sym c.is_generated.ensures ∙ c.if-is_generated.false in
    let state = c.move_state.ensures c.fill_context.new.context known c.step_of-step.ensures.keeps in
    inl (c.fill_context.new.context, after, step, known, c.step_of-step.ensures.is, rw other (puts, state ∙ ap (zone_state_of c.args.zone.now after) at))
