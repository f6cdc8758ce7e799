use Rattle.std.proofs.Common.{◌≡◌, ◌≤◌, ◌+◌, ◌*◌, ◌∙◌, ℕ, subst, arith}
use Rattle.dnw_zone_values.specs.Numbers.{IsNumberText}
use Rattle.dnw_zone_values.specs.Locations.{degree, minute, max_degrees}
use Rattle.dnw_zone_values.proofs.OneLocation.{angled}
use Rattle.dnw_zone_values.proofs.location.angle_of.Goals as goal

pub returns : goal.returns
returns c =
    let max : c.from.result ≡ max_degrees c.args.axis = c.from.ensures ∙ c.max_degrees-max.ensures.is in
    let degrees = subst (λ (m : ℕ). IsNumberText m c.args.degrees.now c.in_ok-d.field-0) max c.in_ok-d.ensures in
    let few : c.in_ok-d.field-0 * degree + c.in_ok-m.field-0 * minute + c.in_ok-s.s ≤ max_degrees c.args.axis * degree = omega (arith, c.if-arc-max.false, c.max_degrees-max.ensures.is) in
    angled c.args.axis c.args.degrees.now c.args.minutes.now c.args.seconds.now c.args.letter.now c.in_ok-d.field-0 c.in_ok-m.field-0 c.in_ok-s.s c.on_side.result degrees c.in_ok-m.ensures c.in_ok-s.ensures few c.on_side.ensures
