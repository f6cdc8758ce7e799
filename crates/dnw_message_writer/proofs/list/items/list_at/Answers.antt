-- A decoder that skips to an offset is there.
use Rattle.dnw_record.proofs.RecordReading.{started}
use Rattle.dnw_message_writer.proofs.list.items.list_at.Goals as goal

pub returns-clause-some : goal.returns-clause-some
returns-clause-some c =
    (started c.args.items.now c.args.start c.new-decoder.result c.skip.result c.skip.new.self c.new-decoder.ensures c.if-items-start.false c.skip.ensures.takes, c.if-items-start.false)
