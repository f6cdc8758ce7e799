use Rattle.dnw_zone_values.proofs.MandatoryKeys.{keys_first}
use Rattle.dnw_zone_values.proofs.mandatory.next_key.Goals as goal

pub returns-clause-is : goal.returns-clause-is
returns-clause-is c =
    let (a, b, first, key) = c.in_ok-key.ensures.some in
    let (x, y, second, len) = c.in_ok-len.ensures.some in
    keys_first c.args.octets.now c.in_ok-key.rest.now c.in_ok-len.rest.now _ c.in_ok-key.key c.in_ok-len.len _ a b x y first key second len c.from.ensures c.split_most.ensures.rest
