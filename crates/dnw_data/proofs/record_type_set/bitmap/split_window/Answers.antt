use Rattle.std.proofs.lemmas.List.{nil_from_length}
use Rattle.dnw_data.proofs.Windows.{splits_cut, splits_next}
use Rattle.dnw_data.proofs.record_type_set.bitmap.split_window.Goals as goal

pub returns-in_default : goal.returns-in_default
returns-in_default c =
    splits_cut c.args.bitmap.now c.in_ok-number.bytes.now c.in_ok-number.number.now c.in_ok-number.ensures.cases.0 (nil_from_length c.in_ok-number.bytes.now c.in_default.ensures.cases)

pub returns : goal.returns
returns c =
    splits_next c.args.bitmap.now c.in_ok-number.bytes.now c.in-Some.bytes.now c.split_at_most.result.0.now c.split_at_most.result.1.now
    c.in_ok-number.number.now c.in-Some.len.now c.in_ok-number.ensures.cases.0 c.in-Some.ensures.cases.0 c.split_at_most.ensures.front c.split_at_most.ensures.back
