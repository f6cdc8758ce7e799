use Rattle.std.proofs.Common.{List, ℕ, ◌++◌, refl, sym, ap, ◌∙◌}
use Rattle.dnw_zone_data.specs.Parsing.{eui48}
use Rattle.dnw_zone_data.proofs.Identifiers.{wire_48}
use Rattle.dnw_zone_data.proofs.parsing.parse_eui48.Goals as goal

pub returns : goal.returns
returns c =
    let own : List ℕ = c.in-Some.own.items in
    let is = rw c.in-Some.is at c.in_ok-own.ensures in
    (eui48 own, (own, is.0, is.1, refl), c.in_ok-extend_from_slice.ensures.items ∙ ap (λ (xs : List ℕ). c.args.out.now.items ++ xs) (c.as_slice.ensures.value ∙ sym (wire_48 c.args.text.now own is.0 is.1)))
