-- A record of a list is added, or not, as one with its owner is.
use Rattle.dnw_message_writer.proofs.list.writing.add_listed.Goals as goal

pub returns-in-Ok-clause-ok : goal.returns-in-Ok-clause-ok
returns-in-Ok-clause-ok c =
    rw (c.wire_labels-owner.ensures, c.owner.ensures, c.from-class.ensures, c.class.ensures, c.from-record_type.ensures, c.record_type.ensures, c.ttl.ensures, c.rdata.ensures.octets) at c.in-Ok.ensures.ok

pub returns-in-Err-clause-err : goal.returns-in-Err-clause-err
returns-in-Err-clause-err c =
    let fails = rw (c.wire_labels-owner.ensures, c.owner.ensures, c.from-class.ensures, c.class.ensures, c.from-record_type.ensures, c.record_type.ensures, c.ttl.ensures, c.rdata.ensures.octets) at c.in-Err.ensures.err in
    (c.in-Err.error, fails, c.of_data.ensures)
