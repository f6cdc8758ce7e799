use Rattle.std.proofs.Common.{◌≡◌, sym, ◌∙◌}
use Rattle.dnw_name_zones.specs.LowerNames.{lowered}
use Rattle.dnw_name_zones.proofs.Lowered.{lowered_is, lowered_same}
use Rattle.dnw_name_zones.proofs.lower_name.LowerName.read.Goals as goal

pub returns-in_err-name-clause-accepts : goal.returns-in_err-name-clause-accepts
returns-in_err-name-clause-accepts c name after (read, (fqdn, k, takes), is) = absurd (c.in_err-name.ensures.accepts after read.labels k takes).0

pub invariant_of-result : goal.invariant_of-result
invariant_of-result c =
    let both = sym c.unwrap.ensures ∙ c.to_lowercase.ensures in
    let result : c.unwrap.result ≡ lowered c.in_ok-name.name = cc in
    lowered_is c.unwrap.result c.in_ok-name.name result

pub returns-clause-accepts : goal.returns-clause-accepts
returns-clause-accepts c name after (read, (fqdn, k, takes), is) =
    let (same, there) = c.in_ok-name.ensures.accepts after read.labels k takes in
    let both = sym c.unwrap.ensures ∙ c.to_lowercase.ensures in
    let result : c.unwrap.result ≡ lowered c.in_ok-name.name = cc in
    (result ∙ lowered_same c.in_ok-name.name read name fqdn same is, there)
