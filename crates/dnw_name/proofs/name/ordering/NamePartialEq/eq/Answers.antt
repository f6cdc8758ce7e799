use Rattle.std.proofs.Common.{◌≡◌, rules, sym, ◌∙◌}
use Rattle.dnw_name_order.specs.OrderLaws.{name_eq_test}
use Rattle.dnw_name.proofs.name.ordering.NamePartialEq.eq.Goals as goal

pub returns-then-is_fqdn : goal.returns-then-is_fqdn
returns-then-is_fqdn c =
    let same : c.is_fqdn.result ≡ c.is_fqdn-2.result = search rules in
    name_eq_test c.args.self.now c.args.other.now c.eq_ignore_root.result (sym c.is_fqdn.ensures ∙ same ∙ c.is_fqdn-2.ensures) c.eq_ignore_root.ensures
