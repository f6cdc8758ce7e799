-- The text of a plain name.
use Rattle.std.specs.Prelude.{ℕ, List, [], ◌∷◌, ◌++◌}
use Rattle.std.specs.List.{flat_map}
use Rattle.dnw_name_form.specs.LabelText.{dot}

-- the octets of labels as they are, and a dot after each
abbrev pub plain_text : List (List ℕ) → List ℕ
plain_text labels = flat_map (λ label. label ++ dot ∷ []) labels
