use Rattle.std.proofs.Common.{◌≡◌, List, ℕ, true, subst, ap, ◌∙◌}
use Rattle.dns_names_wire.specs.Words.{IsDsDigest, NameValue, data_octets, wire}
use Rattle.dnw_commands.specs.Sums.{IsDsRecord, ds_data, ds_wire, sha256_type}
use Rattle.dnw_commands.proofs.names.sums.ds_octets.Goals as goal

pub returns-clause-ok : goal.returns-clause-ok
unfolding IsDsRecord
returns-clause-ok c =
    let key = c.args.key.now in
    let digest : List ℕ = c.in_ok-digest.digest.items in
    let named = c.in_ok-owner.ensures in
    let same : c.in_ok-owner.owner ≡ record { is_fqdn = true; labels = c.owner.result.now } = cc in
    let owner : c.in_ok-owner.owner.labels ≡ key.owner = ap (λ (n : NameValue). n.labels) same ∙ c.owner.ensures in
    let is : IsDsDigest key.owner (data_octets key) sha256_type digest =
    subst (λ (ls : List (List ℕ)). IsDsDigest ls (data_octets key) sha256_type digest) owner
    (subst (λ (xs : List ℕ). IsDsDigest c.in_ok-owner.owner.labels xs sha256_type digest) c.rdata.ensures.octets c.in_ok-digest.ensures.ok) in
    let first = c.as_wire.ensures ∙ ap (λ (ls : List (List ℕ)). wire ls) owner in
    let own = c.as_slice-2.ensures.value ∙ (c.in_ok-own.ensures.ok ∙ (ap (λ (xs : List ℕ). ds_data xs c.as_slice.result.now) c.rdata-2.ensures.octets ∙ ap (ds_data (data_octets key)) c.as_slice.ensures.value)) in
    (digest, is, c.in_ok-octets.ensures.ok ∙ (ap (λ (xs : List ℕ). ds_wire xs key c.as_slice-2.result.now) first ∙ ap (ds_wire (wire key.owner) key) own))
