-- The only reply is to the record, which stands where it was written.
use Rattle.std.proofs.Common.{rules, length}
use Rattle.uses.proofs.ScriptRecords.{reads_back}
use Rattle.uses.proofs.scripts.append_record.Goals as goal

pub only_reply-requires : goal.only_reply-requires
only_reply-requires c = (length c.args.message.now.items, c.args.entry, search rules)

pub returns-clause-read : goal.returns-clause-read
returns-clause-read c =
    reads_back c.records_are_read.ensures c.args.message.now.items c.run.new.buf.items c.args.entry c.in_ok-replies.replies.items c.only_reply.result
    (search rules) c.only_reply.ensures.ok
