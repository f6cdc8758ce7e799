-- Both records are read back, each with its own type and class.
use Rattle.std.proofs.Common.{rules, ◌≡◌, ℕ, List, length, refl, ap, ◌∙◌, subst}
use Rattle.uses.specs.Referrals.{HasOctets, HasName}
use Rattle.uses.proofs.ScriptPairs.{is_there}
use Rattle.uses.proofs.referral.write_referral.Goals as goal

pub returns-clause-served : goal.returns-clause-served
returns-clause-served c =
    let server = c.args.server.labels in
    let same : c.in_ok-clone.field-0.labels ≡ server = search rules in
    is_there c.types_come_back.ensures.named c.classes_come_back.ensures.named c.args.zone.labels (HasName server) (length c.args.header.now)
    c.in_ok-place.ensures.read.0 (ap (λ (old : List ℕ). length old) c.in_ok-message.ensures.items) (search rules) refl refl
    (λ found has. subst (λ ls. HasName ls found) same has)

pub returns-clause-address : goal.returns-clause-address
returns-clause-address c =
    is_there c.types_come_back.ensures.named c.classes_come_back.ensures.named c.args.server.labels (HasOctets c.args.address.now) c.in_ok-place.place
    c.in_ok-place.ensures.read.1 refl (search rules) refl refl (λ found is. is ∙ c.in_ok-from_slice.ensures.items)
