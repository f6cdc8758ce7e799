-- Words that are parameters, one after another.
use Rattle.std.specs.Prelude.{◌≡◌, ◌≢◌, ℕ, List, [], ◌∷◌}
use Rattle.dnw_zone_values.specs.Params.{ParamValue}
use Rattle.dnw_zone_values.specs.ParamWords.{IsParam}
use Rattle.dnw_zone_data.specs.Words.{after_spaces, param_word, after_param}

-- The first words of a text are these parameters, and this is left.
abbrev pub LeadToParams : List ℕ → List ParamValue → List ℕ → Type 0
LeadToParams text [] left = left ≡ after_spaces text
LeadToParams text (p ∷ ps) left =
    (after_spaces text ≢ []) × IsParam (param_word (after_spaces text)) p × LeadToParams (after_param (after_spaces text)) ps left
