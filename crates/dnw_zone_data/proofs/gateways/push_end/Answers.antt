use Rattle.std.proofs.Common.{List, ℕ, refl, inl, inr}
use Rattle.std.specs.Option.{option_copied}
use Rattle.dnw_zone_data.specs.Gateways.{IsGatewayEnd}
use Rattle.dnw_zone_data.proofs.GatewayWords.{IsEnd4, IsEnd6, end4, end6, pushes_as}
use Rattle.dnw_zone_data.proofs.gateways.push_end.Goals as goal

pub returns-in-1 : goal.returns-in-1
returns-in-1 c =
    let origin = option_copied c.args.origin in
    let word : List ℕ = c.args.word.now in
    rw c.in-1.is (pushes_as (IsEnd4 word) (IsGatewayEnd origin 1 word) c.args.out.now.items c.push_ipv4.new.out.items c.push_ipv4.result
    (λ own is. inr (inl (refl, is.0, is.1, is.2))) (end4 origin word) c.push_ipv4.ensures)

pub returns-in-2 : goal.returns-in-2
returns-in-2 c =
    let origin = option_copied c.args.origin in
    let word : List ℕ = c.args.word.now in
    rw c.in-2.is (pushes_as (IsEnd6 word) (IsGatewayEnd origin 2 word) c.args.out.now.items c.push_ipv6.new.out.items c.push_ipv6.result
    (λ own is. inr (inr (inl (refl, is.0, is.1, is.2)))) (end6 origin word) c.push_ipv6.ensures)
