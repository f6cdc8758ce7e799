use Rattle.std.proofs.Common.{false, arith}
use Rattle.dnw_zone_data.specs.Words.{plain_len}
use Rattle.dnw_zone_data.specs.Inside.WordParts.{is_plain_stop}
use Rattle.dnw_zone_data.proofs.Lanes.{none_stops, one_stops, pass, plain_run}
use Rattle.dnw_zone_data.proofs.words.after_lanes.Goals as goal

pub slice_bounds-result-count : goal.slice_bounds-result-count
slice_bounds-result-count c =
    let stop = one_stops is_plain_stop 16 c.lanes.left.now c.plain_stops-stops.result (omega arith) c.lanes-test.true c.plain_stops-stops.ensures c.if-stops-ne0.true in
    omega (arith, stop.0)

pub slice_bounds-result-start : goal.slice_bounds-result-start
slice_bounds-result-start c =
    let stop = one_stops is_plain_stop 16 c.lanes.left.now c.plain_stops-stops.result (omega arith) c.lanes-test.true c.plain_stops-stops.ensures c.if-stops-ne0.true in
    omega (arith, stop.0)

pub returns-then-stops-ne0-clause-left : goal.returns-then-stops-ne0-clause-left
returns-then-stops-ne0-clause-left c =
    let stop = one_stops is_plain_stop 16 c.lanes.left.now c.plain_stops-stops.result (omega arith) c.lanes-test.true c.plain_stops-stops.ensures c.if-stops-ne0.true in
    (pass (plain_len false) _ c.args.text.now c.lanes.left.now (omega (arith, stop.0)) (plain_run _ 16 c.lanes.left.now stop.1) c.lanes.invariant).1

pub lanes-preserved : goal.lanes-preserved
lanes-preserved c =
    let none = none_stops is_plain_stop 16 c.lanes.left.now c.plain_stops-stops.result c.lanes-test.true c.plain_stops-stops.ensures c.if-stops-ne0.false in
    pass (plain_len false) 16 c.args.text.now c.lanes.left.now c.lanes-test.true (plain_run 16 16 c.lanes.left.now none) c.lanes.invariant
