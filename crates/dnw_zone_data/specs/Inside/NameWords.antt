-- Words that are names, one after another.
use Rattle.std.specs.Prelude.{◌≡◌, ◌≢◌, ℕ, Option, Some, List, [], ◌∷◌}
use Rattle.dnw_base.specs.Names.{NameValue}
use Rattle.dnw_zone_data.specs.NameReading.{named_at}
use Rattle.dnw_zone_data.specs.Words.{after_spaces, word, after_word}

-- The first words of a text are these names, and this is left.
abbrev pub LeadToNames : Option NameValue → List ℕ → List (List (List ℕ)) → List ℕ → Type 0
LeadToNames origin text [] left = left ≡ after_spaces text
LeadToNames origin text (labels ∷ listed) left =
    (after_spaces text ≢ []) × (named_at origin (word (after_spaces text)) ≡ Some labels) × LeadToNames origin (after_word (after_spaces text)) listed left
