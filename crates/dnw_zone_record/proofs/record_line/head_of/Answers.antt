use Rattle.dnw_zone_record.proofs.RecordWords.{head_there, type_missing}
use Rattle.dnw_zone_record.proofs.record_line.head_of.Goals as goal

pub returns-in-Some-clause-err : goal.returns-in-Some-clause-err
returns-in-Some-clause-err c =
    type_missing c.args.len c.args.text.now c.in-Some.left.now c.in-Some.ttl c.in-Some.class c.before_type.result c.in-Some.ensures.is c.before_type.ensures.err

pub returns-in-Some-clause-ok : goal.returns-in-Some-clause-ok
returns-in-Some-clause-ok c =
    head_there c.args.text.now c.in-Some.left.now c.in-Some.ttl c.in-Some.class c.before_type.result c.in-Some.ensures.is c.before_type.ensures.ok
