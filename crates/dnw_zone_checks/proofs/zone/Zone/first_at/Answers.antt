use Rattle.std.proofs.Common.{sym, ap, ◌∙◌}
use Rattle.std.specs.Ordering.{is_eq}
use Rattle.dnw_zone_checks.specs.Inside.Seeking.{is_sought}
use Rattle.dnw_zone_checks.proofs.Lookups.{first_here, first_past, none_at}
use Rattle.dnw_zone_checks.proofs.zone.Zone.first_at.Goals as goal

pub returns-in_default : goal.returns-in_default
returns-in_default c =
    sym (none_at c.args.self.now.records.now c.args.name.now (is_sought c.args.sought) c.requires.ordered (sym c.first_from.ensures.first ∙ c.in_default.is))

pub returns-then-is_eq : goal.returns-then-is_eq
returns-then-is_eq c =
    sym (first_here c.args.self.now.records.now c.args.name.now (is_sought c.args.sought) c.in-Some.number c.requires.ordered
    (sym c.first_from.ensures.first ∙ c.in-Some.is) (λ d. ap is_eq (sym (c.cmp_owner.ensures d)) ∙ sym c.is_eq.ensures ∙ c.if-is_eq.true))

pub returns-else-is_eq : goal.returns-else-is_eq
returns-else-is_eq c =
    sym (first_past c.args.self.now.records.now c.args.name.now (is_sought c.args.sought) c.in-Some.number c.requires.ordered
    (sym c.first_from.ensures.first ∙ c.in-Some.is) (λ d. ap is_eq (sym (c.cmp_owner.ensures d)) ∙ sym c.is_eq.ensures ∙ c.if-is_eq.false))
