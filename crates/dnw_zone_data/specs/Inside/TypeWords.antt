-- Words that are types, one after another.
use Rattle.std.specs.Prelude.{◌≡◌, ◌≢◌, ℕ, List, [], ◌∷◌}
use Rattle.dnw_base.specs.declared.record_type.RecordType.{RecordType}
use Rattle.dnw_zone_data.specs.Words.{after_spaces, word, after_word}
use Rattle.dnw_zone_data.specs.TypeLists.{IsTypeWord}

-- The first words of a text are these types, and this is left.
abbrev pub LeadToTypes : List ℕ → List RecordType → List ℕ → Type 0
LeadToTypes text [] left = left ≡ after_spaces text
LeadToTypes text (kind ∷ kinds) left =
    (after_spaces text ≢ []) × IsTypeWord (word (after_spaces text)) kind × LeadToTypes (after_word (after_spaces text)) kinds left
