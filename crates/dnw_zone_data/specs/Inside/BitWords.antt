-- Words that are numbers of a bitmap, one after another.
use Rattle.std.specs.Prelude.{◌≡◌, ◌≢◌, ℕ, List, [], ◌∷◌}
use Rattle.dnw_data.specs.declared.kind.Shown.{Shown}
use Rattle.dnw_zone_data.specs.Words.{after_spaces, word, after_word}
use Rattle.dnw_zone_data.specs.Bitmaps.{IsBitWord}

-- The first words of a text are these numbers, and this is left.
abbrev pub LeadToBits : Shown → List ℕ → List ℕ → List ℕ → Type 0
LeadToBits shown text [] left = left ≡ after_spaces text
LeadToBits shown text (n ∷ ns) left =
    (after_spaces text ≢ []) × IsBitWord shown (word (after_spaces text)) n × LeadToBits shown (after_word (after_spaces text)) ns left
