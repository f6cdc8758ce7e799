-- Lines and columns of texts, from 0: a line is after each line feed, and a column after each octet of a line.
use Rattle.std.specs.Prelude.{ℕ, ◌+◌, ◌==◌, if◌then◌else◌, List, [], ◌∷◌}
use Rattle.dnw_zone_file.specs.declared.place.TextPlace.{TextPlace}

abbrev pub after_octet : TextPlace → ℕ → TextPlace
after_octet place c = if c == 10 then record { line = place.line + 1; column = 0 } else record { line = place.line; column = place.column + 1 }

abbrev pub place_from : TextPlace → List ℕ → TextPlace
place_from place [] = place
place_from place (c ∷ cs) = place_from (after_octet place c) cs
