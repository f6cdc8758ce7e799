-- The replies are to the two records, which stand one after the other.
use Rattle.std.proofs.Common.{rules, length}
use Rattle.uses.proofs.ScriptPairs.{reads_both}
use Rattle.uses.proofs.referral.append_both.Goals as goal

pub first_end-requires : goal.first_end-requires
first_end-requires c = (length c.args.message.now.items, c.args.first, c.args.second, search rules)

pub returns-clause-read : goal.returns-clause-read
returns-clause-read c =
    reads_both c.records_are_read.ensures c.one_reading.ensures.one_name c.args.message.now.items c.run.new.buf.items c.args.first c.args.second
    c.in_ok-replies.replies.items c.first_end.result (search rules) c.first_end.ensures
