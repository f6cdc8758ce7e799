use Rattle.std.proofs.Common.{false, arith}
use Rattle.dnw_zone_data.specs.Words.{plain_len}
use Rattle.dnw_zone_data.specs.Inside.WordParts.{is_plain_stop}
use Rattle.dnw_zone_data.proofs.Lanes.{none_stops, one_stops, pass, passed_none, plain_run}
use Rattle.dnw_zone_data.proofs.words.after_half_lanes.Goals as goal

pub slice_bounds-result-count : goal.slice_bounds-result-count
slice_bounds-result-count c =
    let stop = one_stops is_plain_stop 8 c.args.text.now c.half_stops-stops.result (omega arith) c.if-text-lt-HALF_LANES.false c.half_stops-stops.ensures c.if-stops-ne0.true in
    omega (arith, stop.0)

pub slice_bounds-result-start : goal.slice_bounds-result-start
slice_bounds-result-start c =
    let stop = one_stops is_plain_stop 8 c.args.text.now c.half_stops-stops.result (omega arith) c.if-text-lt-HALF_LANES.false c.half_stops-stops.ensures c.if-stops-ne0.true in
    omega (arith, stop.0)

pub returns-then-stops-ne0-clause-left : goal.returns-then-stops-ne0-clause-left
returns-then-stops-ne0-clause-left c =
    let text = c.args.text.now in
    let stop = one_stops is_plain_stop 8 text c.half_stops-stops.result (omega arith) c.if-text-lt-HALF_LANES.false c.half_stops-stops.ensures c.if-stops-ne0.true in
    (pass (plain_len false) _ text text (omega (arith, stop.0)) (plain_run _ 8 text stop.1) (passed_none (plain_len false) text)).1

pub returns-clause-left : goal.returns-clause-left
returns-clause-left c =
    let text = c.args.text.now in
    let none = none_stops is_plain_stop 8 text c.half_stops-stops.result c.if-text-lt-HALF_LANES.false c.half_stops-stops.ensures c.if-stops-ne0.false in
    (pass (plain_len false) 8 text text c.if-text-lt-HALF_LANES.false (plain_run 8 8 text none) (passed_none (plain_len false) text)).1
