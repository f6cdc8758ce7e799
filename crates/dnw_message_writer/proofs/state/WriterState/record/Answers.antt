use Rattle.std.proofs.Common.{subst, sym, ◌<◌, ℕ}
use Rattle.dnw_message_writer.proofs.Counting.{count_kept}
use Rattle.dnw_message_writer.proofs.state.WriterState.record.Goals as goal

pub close-requires-clause-few : goal.close-requires-clause-few
close-requires-clause-few c =
    let ready = c.in_ok-limit.ensures.ok in
    let same = count_kept c.args.section c.add_record.new.message c.args.message.now c.args.self.now.end ready.message.whole c.in-Some.ensures.before in
    subst (λ (n : ℕ). n < 65535) (sym same) ready.message.few
