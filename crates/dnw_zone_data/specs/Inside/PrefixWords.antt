-- Words that are address prefixes, one after another.
use Rattle.std.specs.Prelude.{◌≡◌, ◌≢◌, ℕ, List, [], ◌∷◌}
use Rattle.dnw_zone_data.specs.Words.{after_spaces, word, after_word}
use Rattle.dnw_zone_values.specs.Prefixes.{IsPrefixText}

-- The first words of a text are these prefixes, and this is left.
abbrev pub LeadToPrefixes : List ℕ → List (List ℕ) → List ℕ → Type 0
LeadToPrefixes text [] left = left ≡ after_spaces text
LeadToPrefixes text (own ∷ others) left =
    (after_spaces text ≢ []) × IsPrefixText (word (after_spaces text)) own × LeadToPrefixes (after_word (after_spaces text)) others left
