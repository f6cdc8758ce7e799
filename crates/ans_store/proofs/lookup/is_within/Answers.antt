use Rattle.std.proofs.Common.{◌≡◌, Bool, List, subst, ℕ}
use Rattle.dns_names_wire.specs.Words.{is_in}
use Rattle.ans_store.proofs.Names.{in_by_test}
use Rattle.ans_store.proofs.lookup.is_within.Goals as goal

pub returns : goal.returns
returns c =
    subst (λ (name : List (List ℕ)). c.zone_of.result ≡ is_in c.args.zone.now.labels name) c.owner.ensures
    (in_by_test c.zone_of.result c.args.zone.now.labels c.owner.result.now c.zone_of.ensures)
