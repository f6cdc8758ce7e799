-- Characters after the space.
use Rattle.std.proofs.Common.{◌≡◌, ℕ, true, List, [], ◌∷◌, refl, arith}
use Rattle.std.proofs.lemmas.Bool.{and_parts, ltb-true, ne_eqb}
use Rattle.std.specs.List.{list_all}
use Rattle.dnw_zone_data.specs.Inside.WordParts.{is_mark}
use Rattle.dnw_zone_data.specs.Words.{is_no_space}

-- They are no white space.
pub no_spaces : (text : List ℕ) → list_all is_mark text ≡ true → list_all is_no_space text ≡ true
no_spaces [] all = refl
no_spaces (c ∷ cs) all =
    let parts = and_parts (is_mark c) (list_all is_mark cs) all in
    let above = ltb-true 32 c parts.0 in
    rw (ne_eqb c 32 (omega (arith, above)), ne_eqb c 9 (omega (arith, above)), ne_eqb c 13 (omega (arith, above)), ne_eqb c 10 (omega (arith, above)))
    (no_spaces cs parts.1)
