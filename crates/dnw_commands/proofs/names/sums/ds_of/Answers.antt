use Rattle.std.proofs.Common.{List, ℕ, None, subst}
use Rattle.dns_names_wire.specs.Words.{IsRecordEntry}
use Rattle.dnw_commands.specs.Sums.{AreDsOf, IsKeyRecord}
use Rattle.dnw_commands.proofs.names.sums.ds_of.Goals as goal

pub returns-clause-ok : goal.returns-clause-ok
unfolding AreDsOf
returns-clause-ok c =
    let key = subst (λ (xs : List ℕ). IsKeyRecord xs c.in_ok-key.key) c.as_slice.ensures.value c.in_ok-key.ensures.ok.0 in
    let octets : List ℕ = c.in_ok-octets.octets.items in
    let entry = subst (λ (xs : List ℕ). IsRecordEntry None xs octets) c.as_bytes.ensures.value c.in_ok-octets.ensures.ok in
    (c.in_ok-key.key, (octets, entry, key), c.in_ok-ds.ensures.ok)
