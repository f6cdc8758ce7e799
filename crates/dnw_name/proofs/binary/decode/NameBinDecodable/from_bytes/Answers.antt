use Rattle.dnw_name.proofs.Qualified.{by_labels}
use Rattle.dnw_name.proofs.binary.decode.NameBinDecodable.from_bytes.Goals as goal

pub returns-clause-accepts : goal.returns-clause-accepts
returns-clause-accepts c x after h =
    let (fqdn, k, takes) = h in
    let (ok, _) = c.read.ensures.accepts after x.labels k (rw c.new-decoder.ensures takes) in
    rw (by_labels x fqdn) at ok
