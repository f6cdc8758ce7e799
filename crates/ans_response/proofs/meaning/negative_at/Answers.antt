use Rattle.std.proofs.Common.{None, ap}
use Rattle.ans_response.specs.Counted.{record_seen}
use Rattle.ans_response.specs.Meanings.{negative_of}
use Rattle.ans_response.proofs.Chains.{negative_is, negative_none, negative_some}
use Rattle.ans_response.proofs.meaning.negative_at.Goals as goal

pub returns-in_default : goal.returns-in_default
returns-in_default c target =
    negative_none c.args.asked.now c.args.name.now.labels target c.args.message.now.authorities c.authorities.result c.authorities.ensures (c.in_default.ensures.first target)

pub returns-in_default-minimum_of : goal.returns-in_default-minimum_of
returns-in_default-minimum_of c target =
    negative_some c.args.asked.now c.args.name.now.labels target c.args.message.now.authorities c.authorities.result c.authorities.ensures (record_seen target c.in-Some.soa) None
    (c.in-Some.ensures.first target) (ap (negative_of (record_seen target c.in-Some.soa)) c.in_default-minimum_of.ensures)

pub returns : goal.returns
returns c target =
    negative_some c.args.asked.now c.args.name.now.labels target c.args.message.now.authorities c.authorities.result c.authorities.ensures (record_seen target c.in-Some.soa) _
    (c.in-Some.ensures.first target)
    (negative_is (record_seen target c.in-Some.soa) c.in-Some-minimum_of.minimum c.smaller_ttl-ttl.result c.smaller_ttl-ttl.ensures c.in-Some-minimum_of.ensures)
