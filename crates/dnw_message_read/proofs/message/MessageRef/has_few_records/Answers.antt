use Rattle.std.proofs.Common.{sym}
use Rattle.dnw_message_read.proofs.FewRecords.{few_records}
use Rattle.dnw_message_read.proofs.message.MessageRef.has_few_records.Goals as goal

pub returns : goal.returns
returns c = λ found.
    let m = c.self.inside in
    rw (sym c.self.view_is) (few_records m.message.now m.header m.answers m.authorities m.additionals m.end c.args.max_pointers (c.are_few.ensures found))
