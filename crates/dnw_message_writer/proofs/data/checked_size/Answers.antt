use Rattle.std.proofs.Common.{subst, sym, take}
use Rattle.dnw_message_writer.specs.Inside.Splitting.{HasField}
use Rattle.dnw_message_writer.proofs.Splitting.{has_own}
use Rattle.dnw_message_writer.proofs.data.checked_size.Goals as goal

pub returns-clause-some : goal.returns-clause-some
returns-clause-some c =
    let octets = c.args.octets.now in
    subst (λ n. HasField c.args.kind octets (take n octets)) (sym c.index.ensures.index)
    (has_own c.args.kind octets _ c.read.new.reader c.requires (rw c.new-reader.ensures at c.in-Ok.ensures.ok))
