use Rattle.dnw_data.proofs.Windows.{bounds_go_on, bounds_fail, bounds_end}
use Rattle.dnw_data.proofs.record_type_set.bitmap.is_in_bounds.Goals as goal

pub loop-octets-preserved : goal.loop-octets-preserved
loop-octets-preserved c =
    bounds_go_on c.args.bitmap.now c.loop-octets.rest.now c.in-Some.others.now c.in-Some.octets.now c.in-Some.field-0-0 c.loop-octets.invariant c.in-Some.ensures c.if-not-window_fits.ensures

pub returns-then-not-window_fits : goal.returns-then-not-window_fits
returns-then-not-window_fits c =
    bounds_fail c.args.bitmap.now c.loop-octets.rest.now c.in-Some.others.now c.in-Some.octets.now c.in-Some.field-0-0 c.loop-octets.invariant c.in-Some.ensures c.if-not-window_fits.ensures

pub returns : goal.returns
returns c = bounds_end c.args.bitmap.now c.loop-octets.rest.now c.loop-octets.invariant c.in_default.ensures
