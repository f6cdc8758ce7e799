use Rattle.std.proofs.Common.{◌≡◌, length, rules, subst}
use Rattle.std.specs.Int.{w16, w32, to_be_bytes}
use Rattle.dnw_base.specs.Names.{lower, wire}
use Rattle.dnw_signed.proofs.Zones.{record_joined}
use Rattle.dnw_signed.proofs.zone_digest.hash_record.Goals as goal

pub returns : goal.returns
returns g c = λ m h.
    let z = c.args.item.now in
    let owner : c.as_wire.result.now ≡ wire (lower z.owner) = search rules in
    let kind : c.to_be_bytes.result ≡ to_be_bytes w16 z.record_type = search rules in
    let class : c.to_be_bytes-2.result ≡ to_be_bytes w16 z.class = search rules in
    let ttl : c.to_be_bytes-3.result ≡ to_be_bytes w32 z.ttl = search rules in
    let size : c.to_be_bytes-4.result ≡ to_be_bytes w16 (length z.octets) = search rules in
    let octets : c.as_slice.result.now ≡ z.octets = search rules in
    subst (λ xs. g.H.Digest.holds c.update-6.new.self xs) (record_joined m _ _ _ _ _ _ z owner kind class ttl size octets)
    (c.update-6.ensures _ (c.update-5.ensures _ (c.update-4.ensures _ (c.update-3.ensures _ (c.update-2.ensures _ (c.update.ensures m h))))))
