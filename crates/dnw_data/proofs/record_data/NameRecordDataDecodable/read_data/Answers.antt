use Rattle.dnw_data.proofs.Sets.{not_failed}
use Rattle.dnw_data.proofs.record_data.NameRecordDataDecodable.read_data.Goals as goal

pub returns-clause-accepts : goal.returns-clause-accepts
returns-clause-accepts c x after h =
    let (fqdn, k, takes) = h in
    let (ok, there) = c.read.ensures.accepts after x.labels k takes in
    not_failed _ _ c.read.result ok
