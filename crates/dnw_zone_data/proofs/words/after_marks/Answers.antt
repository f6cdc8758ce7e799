use Rattle.std.proofs.Common.{arith}
use Rattle.dnw_zone_data.specs.Inside.WordParts.{is_low}
use Rattle.dnw_zone_data.proofs.Lanes.{none_stops, one_stops}
use Rattle.dnw_zone_data.proofs.Spaces.{mark_run, marks_more}
use Rattle.dnw_zone_data.proofs.words.after_marks.Goals as goal

pub slice_bounds-result-count : goal.slice_bounds-result-count
slice_bounds-result-count c =
    let stop = one_stops is_low 16 c.lanes.left.now c.low_stops-stops.result (omega arith) c.lanes-test.true c.low_stops-stops.ensures c.if-stops-ne0.true in
    omega (arith, stop.0)

pub slice_bounds-result-start : goal.slice_bounds-result-start
slice_bounds-result-start c =
    let stop = one_stops is_low 16 c.lanes.left.now c.low_stops-stops.result (omega arith) c.lanes-test.true c.low_stops-stops.ensures c.if-stops-ne0.true in
    omega (arith, stop.0)

pub returns-then-stops-ne0 : goal.returns-then-stops-ne0
returns-then-stops-ne0 c =
    let stop = one_stops is_low 16 c.lanes.left.now c.low_stops-stops.result (omega arith) c.lanes-test.true c.low_stops-stops.ensures c.if-stops-ne0.true in
    marks_more _ c.args.text.now c.lanes.left.now (omega (arith, stop.0)) (mark_run _ 16 c.lanes.left.now stop.1) c.lanes.invariant

pub lanes-preserved : goal.lanes-preserved
lanes-preserved c =
    let none = none_stops is_low 16 c.lanes.left.now c.low_stops-stops.result c.lanes-test.true c.low_stops-stops.ensures c.if-stops-ne0.false in
    marks_more 16 c.args.text.now c.lanes.left.now c.lanes-test.true (mark_run 16 16 c.lanes.left.now none) c.lanes.invariant
