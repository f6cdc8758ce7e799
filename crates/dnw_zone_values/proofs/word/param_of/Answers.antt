use Rattle.std.proofs.Common.{◌≡◌, List, ℕ, length, Some, inl, inr, sym, ap, ◌∙◌, subst, arith}
use Rattle.dnw_zone_values.specs.ParamKeys.{named_form}
use Rattle.dnw_zone_values.specs.ParamWords.{IsOwnValue}
use Rattle.dnw_zone_values.proofs.Steps.{one_value}
use Rattle.dnw_zone_values.proofs.word.param_of.Goals as goal

pub returns-then-len-gt-MAX_VALUE-clause-ok : goal.returns-then-len-gt-MAX_VALUE-clause-ok
returns-then-len-gt-MAX_VALUE-clause-ok c = λ p is. elim is [
  | inl named ↦
      let e : Some c.in-Some-named_key.number ≡ Some p.key = c.in-Some-named_key.ensures ∙ named.0 in
      let key : c.in-Some-named_key.number ≡ p.key = cc in
      let form : named_form p.key ≡ c.named_form.result = ap named_form (sym key) ∙ sym c.named_form.ensures in
      let own : List ℕ = c.args.own.items in
      let found = rw c.in-Some-2.is at c.in_ok-octets.ensures.ok in
      let mine = subst (λ (xs : List ℕ). IsOwnValue c.named_form.result xs c.in-Some-2.octets.items) c.as_slice.ensures.value found in
      let same : p.octets ≡ c.in-Some-2.octets.items =
      one_value c.named_form.result own p.octets c.in-Some-2.octets.items (subst (λ f. IsOwnValue f own p.octets) form named.1) mine in
      omega (arith, named.2, ap length same, c.len.ensures, c.if-len-gt-MAX_VALUE.true)
  | inr generic ↦ c.in_default.ensures p.key generic.0
]
