use Rattle.std.proofs.Common.{◌+◌, length, slice_range, ◌∙◌, arith}
use Rattle.std.proofs.lemmas.Grind.{same_number_lists}
use Rattle.dnw_message_writer.proofs.Places.{range_index, range_length}
use Rattle.dnw_message_writer.proofs.standing.is_at.Goals as goal

pub returns : goal.returns
returns c = λ yes.
    let m = c.args.message.now in
    let at = c.args.at in
    let octets = c.args.octets.now in
    let n = length octets in
    let size = range_length m at n c.requires in
    same_number_lists (slice_range m at (at + n)) octets size
    (λ k small. range_index m at n k (omega (arith, small, size)) ∙ c.octets.invariant k (omega (arith, small, size, c.octets-test.false)))
