use Rattle.std.proofs.Common.{List, ℕ, sym, subst, arith, inl, inr}
use Rattle.std.specs.Net.Grammar.{IsIpv6Text}
use Rattle.dnw_zone_values.proofs.prefix.push_ipv6.Goals as goal

pub returns-in_default-parse_ipv6-clause-ok : goal.returns-in_default-parse_ipv6-clause-ok
returns-in_default-parse_ipv6-clause-ok c = λ own is. elim is.2 [
  | inl x ↦ absurd (omega (arith, x.0))
  | inr x ↦ c.in_default-parse_ipv6.ensures.1 x.1 (subst (λ (t : List ℕ). IsIpv6Text t x.1) (sym c.in-Ok.ensures.cases.0) x.3)
]
