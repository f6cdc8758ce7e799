use Rattle.dnw_zone_record.proofs.RecordWords.{lacks_after}
use Rattle.dnw_zone_record.proofs.record_line.class_and_ttl.Goals as goal

pub returns-in_default-next_ttl-clause-is : goal.returns-in_default-next_ttl-clause-is
returns-in_default-next_ttl-clause-is c = (
  c.requires,
  lacks_after c.args.text.now c.next_word.result.0.now c.next_word.result.1.now c.in-Some.class c.next_word.ensures.word c.next_word.ensures.rest c.in-Some.ensures c.in_default-next_ttl.ensures.is,
)
