use Rattle.std.proofs.Common.{◌≡◌, ℕ, List, ◌∷◌, drop, sym, ap, ◌∙◌}
use Rattle.dnw_base.specs.Labels.{wildcard}
use Rattle.dnw_name_form.proofs.Wires.{labels_of_form}
use Rattle.dnw_zone_checks.specs.Checks.{first_at}
use Rattle.dnw_zone_checks.specs.Inside.Seeking.{is_sought}
use Rattle.dnw_zone_checks.proofs.zone.Zone.first_beside.Goals as goal

pub from_octets-requires : goal.from_octets-requires
from_octets-requires c = (labels_of_form c.as_wire.result.now c.args.name.now c.as_wire.ensures.form c.as_wire.ensures.labels).0

pub returns-in-Some : goal.returns-in-Some
returns-in-Some c =
    let name = c.args.name.now in
    let same : c.from_octets.result ≡ name = c.from_octets.ensures ∙ (labels_of_form c.as_wire.result.now name c.as_wire.ensures.form c.as_wire.ensures.labels).1 in
    let (some, form) = c.in-Some.ensures in
    c.first_at.ensures ∙ ap (λ (ls : List (List ℕ)). first_at c.args.self.now.records.now ls (is_sought c.args.sought))
    (c.labels.ensures.labels ∙ form ∙ ap (λ (ls : List (List ℕ)). wildcard ∷ drop 1 ls) same)

pub returns : goal.returns
returns c =
    let name = c.args.name.now in
    let same : c.from_octets.result ≡ name = c.from_octets.ensures ∙ (labels_of_form c.as_wire.result.now name c.as_wire.ensures.form c.as_wire.ensures.labels).1 in
    absurd (c.requires.some (sym same ∙ c.in-None.ensures))
