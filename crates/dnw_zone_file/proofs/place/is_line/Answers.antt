use Rattle.std.proofs.Common.{ℕ, List, [], ◌∷◌, ◌++◌, sym, ap, ◌∙◌}
use Rattle.dnw_zone_file.specs.Places.{place_from}
use Rattle.dnw_zone_file.proofs.PlaceLines.{one_line}
use Rattle.dnw_zone_file.proofs.place.is_line.Goals as goal

pub returns-in-Some-eq10-default : goal.returns-in-Some-eq10-default
returns-in-Some-eq10-default c = λ none.
    let before : List ℕ = c.in-Some-eq10-default.before.now in
    ap (place_from (record { line = 0; column = 0 }))
    (c.in-Some-eq10-default.ensures.cases.0 ∙ ap (λ (o : ℕ). before ++ o ∷ []) c.in-Some-eq10-default.field-0-0-test)
    ∙ one_line 0 0 before (sym c.has_no_feed.ensures ∙ none)
