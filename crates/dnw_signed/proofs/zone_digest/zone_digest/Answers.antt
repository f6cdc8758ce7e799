use Rattle.std.proofs.Common.{◌∙◌, ap, refl, rules}
use Rattle.std.specs.List.{flat_map}
use Rattle.sha2.specs.Sha512.{sha384, sha512}
use Rattle.dnw_signed.specs.ZoneDigests.{IsZoneHash, zone_record}
use Rattle.dnw_signed.proofs.Zones.{hashed_384, hashed_512, other_hash}
use Rattle.dnw_signed.proofs.zone_digest.zone_digest.Goals as goal

pub returns-then-algorithm-eq1-clause-ok : goal.returns-then-algorithm-eq1-clause-ok
returns-then-algorithm-eq1-clause-ok c =
    let ordered = c.put_in_order.new.zone.items in
    let octets = flat_map zone_record ordered in (
      octets,
      record { all = c.in_ok-zone.zone.items; digested = c.in_ok-zone.ensures.zone; ordered = ordered; in_order = c.put_in_order.ensures.order; joined = refl },
      hashed_384 c.args.algorithm octets c.digest_of.result.items c.if-algorithm-eq1.true
          (c.digest_of.ensures ∙ c.hash_of_records.ensures ∙ ap (λ zone. sha384 (flat_map zone_record zone)) c.as_slice.ensures.value),
    )

pub returns-clause-ok : goal.returns-clause-ok
returns-clause-ok c =
    let ordered = c.put_in_order.new.zone.items in
    let octets = flat_map zone_record ordered in
    let known : IsZoneHash c.args.algorithm = search rules in (
      octets,
      record { all = c.in_ok-zone.zone.items; digested = c.in_ok-zone.ensures.zone; ordered = ordered; in_order = c.put_in_order.ensures.order; joined = refl },
      hashed_512 c.args.algorithm octets c.digest_of-else-algorithm-eq1.result.items (other_hash c.args.algorithm known c.if-algorithm-eq1.false)
          (c.digest_of-else-algorithm-eq1.ensures ∙ c.hash_of_records-else-algorithm-eq1.ensures
          ∙ ap (λ zone. sha512 (flat_map zone_record zone)) c.as_slice-else-algorithm-eq1.ensures.value),
    )
