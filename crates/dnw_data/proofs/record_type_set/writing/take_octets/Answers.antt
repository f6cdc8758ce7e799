use Rattle.dnw_data.proofs.Writing.{octets_next}
use Rattle.dnw_data.proofs.record_type_set.writing.take_octets.Goals as goal

pub loop-index-preserved : goal.loop-index-preserved
loop-index-preserved c =
    octets_next c.args.first c.loop-index.index c.take_octet-octet.result.0 c.loop-index.octets.items c.push.new.self.items c.args.codes.now
    c.loop-index.rest.now c.take_octet-octet.result.1.now c.loop-index.invariant c.in_ok-push.ensures.ok c.take_octet-octet.ensures.codes c.take_octet-octet.ensures.above
