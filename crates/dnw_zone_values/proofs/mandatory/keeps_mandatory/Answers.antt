use Rattle.std.proofs.Common.{◌≡◌, true, sym, ◌∙◌, arith}
use Rattle.dnw_zone_values.specs.Mandatory.{is_list_of_keys}
use Rattle.dnw_zone_values.proofs.MandatoryKeys.{keeps_listed}
use Rattle.dnw_zone_values.proofs.mandatory.keeps_mandatory.Goals as goal

pub returns-then-is_list_of_keys : goal.returns-then-is_list_of_keys
returns-then-is_list_of_keys c =
    let (a, b, first, key) = c.in-Some.ensures.some in
    let (x, y, second, len) = c.in-Some-split_u16.ensures.some in
    let listed : is_list_of_keys c.split_most.result.0.now ≡ true = sym c.is_list_of_keys.ensures ∙ c.if-is_list_of_keys.true in
    c.are_among.ensures
    ∙ sym (keeps_listed c.args.octets.now c.in-Some.rest.now c.in-Some-split_u16.rest.now _ _ c.in-Some.key c.in-Some-split_u16.len _ a b x y first key second len c.from.ensures c.split_most.ensures.own c.split_most.ensures.rest (omega (arith, c.if-key-ne0.false)) listed)
