use Rattle.dnw_name.proofs.Qualified.{by_labels}
use Rattle.dnw_name.proofs.binary.decode.NameBinDecodable.read.Goals as goal

pub returns-clause-accepts : goal.returns-clause-accepts
returns-clause-accepts c x after h =
    let (fqdn, k, takes) = h in
    let (ok, there) = c.read.ensures.accepts after x.labels k takes in
    (rw (by_labels x fqdn) at ok, there)
