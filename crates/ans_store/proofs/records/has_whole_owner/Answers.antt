use Rattle.ans_store.proofs.Reading.{whole_owner_iff}
use Rattle.ans_store.proofs.records.has_whole_owner.Goals as goal

pub returns-clause-whole : goal.returns-clause-whole
returns-clause-whole c =
    whole_owner_iff c.args.octets.now _ c.copy_wire.new.out c.args.start c.encoded_len-size.result c.in-Some.len c.rdata_offset.result c.args.record.now c.owner-owner.result.now
    c.eq.result c.owner-owner.ensures c.encoded_len-size.ensures.size c.in-Some.ensures.some.0 c.in-Some.ensures.some.1 c.rdata_offset.ensures c.if-rdata_offset-start.false
    c.eq.ensures
