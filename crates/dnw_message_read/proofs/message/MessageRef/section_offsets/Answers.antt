use Rattle.dnw_message_read.proofs.Whole.{sections_begin}
use Rattle.dnw_message_read.proofs.message.MessageRef.section_offsets.Goals as goal

pub returns : goal.returns
returns c =
    let m = c.self.inside in
    let begin = sections_begin m.message.now m.header m.answers m.authorities m.additionals m.end m.opt_outside m.opt_inside c.self.invariant in
    rw (← c.self.view_is) begin
