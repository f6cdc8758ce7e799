use Rattle.std.proofs.Common.{true, inl}
use Rattle.dnw_c_names.proofs.names.parse.Goals as goal

-- the name is the same for every origin
pub returns-in-Some : goal.returns-in-Some
returns-in-Some c =
    let (labels, name, puts) = c.in-Some.ensures.some in
    inl (c.in_ok-labels.labels, record { is_fqdn = true; labels = labels }, c.in_ok-labels.ensures.ok, name c.in_ok-labels.labels, puts)
