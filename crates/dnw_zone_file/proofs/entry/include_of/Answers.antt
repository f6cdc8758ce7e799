use Rattle.std.proofs.Common.{◌≢◌, [], inl, inr, rules}
use Rattle.dnw_zone_record.specs.RecordLines.{next_word}
use Rattle.dnw_zone_file.proofs.entry.include_of.Goals as goal

pub returns-in-Err-clause-err : goal.returns-in-Err-clause-err
returns-in-Err-clause-err c =
    let some : next_word c.args.left.now ≢ [] = search rules in
    let own = rw c.next_word.ensures.rest at c.in-Err.ensures.err in
    inr (inl (some, own.0, own.1))
