use Rattle.std.proofs.Common.{◌≡◌, ◌≤◌, length, take, refl, ap, ◌∙◌, arith}
use Rattle.dnw_message_writer.specs.CompressedNames.{put_at}
use Rattle.dnw_message_writer.specs.Inside.Turns.{count_octets}
use Rattle.dnw_message_writer.specs.Sections.{offset_of_count}
use Rattle.dnw_message_writer.proofs.Turning.{count_back, on_err}
use Rattle.dnw_message_writer.proofs.state.WriterState.copy_set.Goals as goal

pub returns-then-message-ge-FIRST_ITEM-clause-same : goal.returns-then-message-ge-FIRST_ITEM-clause-same
returns-then-message-ge-FIRST_ITEM-clause-same c =
    let old = c.args.message.now in
    let m = c.add_set-added.new.message in
    let size : length m ≡ length old = c.add_set-added.ensures.size in
    let long : 12 ≤ length old = omega (arith, size, c.if-message-ge-FIRST_ITEM.true) in
    let off : c.offset_of_count-at.result ≡ offset_of_count c.args.section = c.offset_of_count-at.ensures.value in
    let octets : c.two_at-count.result ≡ count_octets old (offset_of_count c.args.section) = c.two_at-count.ensures long ∙ ap (count_octets old) off in
    let put : c.put_at.new.message ≡ put_at m (offset_of_count c.args.section) (count_octets old (offset_of_count c.args.section)) =
    c.put_at.ensures ∙ (ap (λ n. put_at m n c.two_at-count.result) off ∙ ap (put_at m (offset_of_count c.args.section)) octets) in
    let back = count_back c.args.section old c.args.self.now.end m c.if-saved-ge-FIRST_ITEM.true long size c.add_set-added.ensures.kept in
    on_err c.add_set-added.result (refl, ap (take c.args.self.now.end) put ∙ back)
