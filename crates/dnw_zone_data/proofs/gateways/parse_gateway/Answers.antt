use Rattle.std.proofs.Common.{List, ℕ, ◌++◌, ap, ◌∙◌}
use Rattle.std.specs.Option.{option_copied}
use Rattle.dnw_zone_data.proofs.GatewayWords.{as_gateway}
use Rattle.dnw_zone_data.proofs.gateways.parse_gateway.Goals as goal

pub returns : goal.returns
returns c =
    let head = c.in_ok-extend_from_slice.ensures.items ∙ ap (λ (xs : List ℕ). c.args.out.now.items ++ xs) c.gateway_head.ensures in
    as_gateway (option_copied c.args.origin) c.args.first.now c.args.second.now c.args.third.now c.args.out.now.items c.extend_from_slice.new.self.items c.push_end.new.out.items
    c.in-Some.gateway_type c.in-Some-octet_of.algorithm c.push_end.result c.in-Some.ensures c.in-Some-octet_of.ensures head c.push_end.ensures
