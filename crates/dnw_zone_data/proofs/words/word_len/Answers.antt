use Rattle.std.proofs.Common.{arith}
use Rattle.dnw_zone_data.specs.Inside.WordParts.{is_plain_stop}
use Rattle.dnw_zone_data.proofs.Lanes.{none_stops, one_stops, plain_run, spaced_word}
use Rattle.dnw_zone_data.proofs.words.word_len.Goals as goal

pub any_word_len-requires-then-stops-eq0-clause-passed : goal.any_word_len-requires-then-stops-eq0-clause-passed
any_word_len-requires-then-stops-eq0-clause-passed c =
    let none = none_stops is_plain_stop 16 c.args.text.now c.plain_stops-stops.result c.if-text-lt-LANES.false c.plain_stops-stops.ensures c.if-stops-eq0.true in
    plain_run 16 16 c.args.text.now none

pub bounds-text-len : goal.bounds-text-len
bounds-text-len c =
    (one_stops is_plain_stop 16 c.args.text.now c.plain_stops-stops.result (omega arith) c.if-text-lt-LANES.false c.plain_stops-stops.ensures c.if-stops-eq0.false).0

pub returns-then-text-len-eq32-clause-is : goal.returns-then-text-len-eq32-clause-is
returns-then-text-len-eq32-clause-is c =
    let stop = one_stops is_plain_stop 16 c.args.text.now c.plain_stops-stops.result (omega arith) c.if-text-lt-LANES.false c.plain_stops-stops.ensures c.if-stops-eq0.false in
    spaced_word c.args.text.now _ (plain_run _ 16 c.args.text.now stop.1) c.if-text-len-eq32.true

pub any_word_len-requires-2-clause-within : goal.any_word_len-requires-2-clause-within
any_word_len-requires-2-clause-within c =
    let stop = one_stops is_plain_stop 16 c.args.text.now c.plain_stops-stops.result (omega arith) c.if-text-lt-LANES.false c.plain_stops-stops.ensures c.if-stops-eq0.false in
    omega (arith, stop.0)

pub any_word_len-requires-2-clause-passed : goal.any_word_len-requires-2-clause-passed
any_word_len-requires-2-clause-passed c =
    let stop = one_stops is_plain_stop 16 c.args.text.now c.plain_stops-stops.result (omega arith) c.if-text-lt-LANES.false c.plain_stops-stops.ensures c.if-stops-eq0.false in
    plain_run _ 16 c.args.text.now stop.1
