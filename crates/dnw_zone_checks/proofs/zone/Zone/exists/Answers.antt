use Rattle.std.proofs.Common.{sym, ◌∙◌}
use Rattle.dnw_zone_checks.proofs.Existing.{exists_if, exists_not}
use Rattle.dnw_zone_checks.proofs.zone.Zone.exists.Goals as goal

pub returns-in-Some : goal.returns-in-Some
returns-in-Some c =
    sym (exists_if c.args.self.now.records.now c.args.name.now c.in-Some.number c.is_owner_in.result c.requires.ordered
    (sym c.first_from.ensures.first ∙ c.in-Some.is) (λ d. sym (c.is_owner_in.ensures d)))

pub returns-in-None : goal.returns-in-None
returns-in-None c = sym (exists_not c.args.self.now.records.now c.args.name.now c.requires.ordered (sym c.first_from.ensures.first ∙ c.in-None.is))
