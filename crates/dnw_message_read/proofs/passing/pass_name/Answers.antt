use Rattle.dnw_message_read.proofs.Pointed.{at_known, known_next, on_known}
use Rattle.dnw_message_read.proofs.passing.pass_name.Goals as goal

pub returns-then-octets-known-clause-known : goal.returns-then-octets-known-clause-known
returns-then-octets-known-clause-known c =
    on_known c.args.reader.now c.skip.new.self c.args.known.now c.two_octets-octets.result c.index-start.result c.message.result.now c.message.ensures
    c.index-start.ensures.index c.requires c.if-octets-ge-FIRST_POINTER.true c.if-octets-known.true c.two_octets-octets.ensures
    (rw c.unwrap.ensures at c.skip.ensures.takes).2

pub returns-then-octets-known-clause-ok : goal.returns-then-octets-known-clause-ok
returns-then-octets-known-clause-ok c =
    at_known c.args.reader.now c.skip.new.self c.args.known.now c.two_octets-octets.result c.index-start.result c.message.result.now c.message.ensures
    c.index-start.ensures.index c.requires c.if-octets-ge-FIRST_POINTER.true c.if-octets-known.true c.two_octets-octets.ensures
    (rw c.unwrap.ensures at c.skip.ensures.takes).2

pub returns-clause-known : goal.returns-clause-known
returns-clause-known c =
    known_next c.args.reader.now c.read_counted.new.decoder _ _ c.two_octets-octets.result c.index-start.result c.message.result.now c.name_known.result
    c.message.ensures c.index-start.ensures.index c.in_ok-read_counted.ensures.ok.0 c.two_octets-octets.ensures c.name_known.ensures
