use Rattle.std.proofs.Common.{ℕ, [], ◌∷◌, ◌++◌, ap, ◌∙◌}
use Rattle.std.specs.Option.{option_copied}
use Rattle.dnw_zone_data.proofs.GatewayWords.{as_relay}
use Rattle.dnw_zone_data.proofs.gateways.parse_relay.Goals as goal

pub returns : goal.returns
returns c =
    let head = c.in_ok-push.ensures.items ∙ ap (λ (n : ℕ). c.args.out.now.items ++ n ∷ []) c.relay_head.ensures in
    as_relay (option_copied c.args.origin) c.args.first.now c.args.second.now c.args.third.now c.args.out.now.items c.push.new.self.items c.push_end.new.out.items
    c.in-Some.flag c.in-Some-octet_of.relay_type c.push_end.result c.in-Some.ensures c.in-Some-octet_of.ensures head c.push_end.ensures
