use Rattle.std.proofs.Common.{ℕ, IfOk, sym, subst}
use Rattle.dnw_zone_values.specs.Prefixes.{IsPrefixOf}
use Rattle.dnw_zone_values.specs.Inside.Steps.{PushesOne}
use Rattle.dnw_zone_values.proofs.prefix.push_of.Goals as goal

pub returns-then-family-eq1-clause-ok : goal.returns-then-family-eq1-clause-ok
returns-then-family-eq1-clause-ok c =
    subst (λ (f : ℕ). IfOk c.push_ipv4.result (PushesOne (IsPrefixOf f c.args.negates c.args.address.now c.args.size.now) c.args.octets.now.items c.push_ipv4.new.octets.items))
    (sym c.if-family-eq1.true) c.push_ipv4.ensures.ok

pub returns-then-family-eq2-clause-ok : goal.returns-then-family-eq2-clause-ok
returns-then-family-eq2-clause-ok c =
    subst (λ (f : ℕ). IfOk c.push_ipv6.result (PushesOne (IsPrefixOf f c.args.negates c.args.address.now c.args.size.now) c.args.octets.now.items c.push_ipv6.new.octets.items))
    (sym c.if-family-eq2.true) c.push_ipv6.ensures.ok
