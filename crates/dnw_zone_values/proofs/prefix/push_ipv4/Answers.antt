use Rattle.std.proofs.Common.{List, ℕ, sym, subst, arith, inl, inr}
use Rattle.std.specs.Net.Grammar.{IsIpv4Text}
use Rattle.dnw_zone_values.proofs.prefix.push_ipv4.Goals as goal

pub returns-in_default-parse_ipv4-clause-ok : goal.returns-in_default-parse_ipv4-clause-ok
returns-in_default-parse_ipv4-clause-ok c = λ own is. elim is.2 [
  | inl x ↦ c.in_default-parse_ipv4.ensures.1 x.1 (subst (λ (t : List ℕ). IsIpv4Text t x.1) (sym c.in-Ok.ensures.cases.0) x.3)
  | inr x ↦ absurd (omega (arith, x.0))
]
