use Rattle.dnw_zone_values.proofs.PrefixesBack.{three_parts}
use Rattle.dnw_zone_values.proofs.prefix.push_shown.Goals as goal

pub returns : goal.returns
returns c =
    three_parts c.args.octets.now _ _ _ _ c.address_of.result.now c.negates.result c.prefix_family.result c.negates.ensures c.prefix_family.ensures c.address_of.ensures
    c.in_ok-push_negation.ensures c.in_ok-push_address.ensures c.in_ok-write.ensures.bytes
