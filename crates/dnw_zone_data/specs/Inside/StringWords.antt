-- Words that are strings, one after another.
use Rattle.std.specs.Prelude.{◌≡◌, ◌≢◌, ℕ, List, [], ◌∷◌, ◌++◌}
use Rattle.dnw_data.specs.FieldWires.{field_wire}
use Rattle.dnw_data.specs.Values.{FieldValue}
use Rattle.dnw_zone_data.specs.declared.string_lists.Listed.{Listed}
use Rattle.dnw_zone_data.specs.declared.string_lists.Listed.TheVariants.{Strings, TooMany, Others}
use Rattle.dnw_zone_data.specs.StringLists.{AreTexts, AreTooMany}
use Rattle.dnw_zone_data.specs.Words.{after_spaces, word, after_word}
use Rattle.dnw_zone_values.specs.Strings.{IsStringText}

-- The first words of a text are these strings, and this is left.
abbrev pub LeadTo : List ℕ → List (List ℕ) → List ℕ → Type 0
LeadTo text [] left = left ≡ after_spaces text
LeadTo text (string ∷ strings) left =
    (after_spaces text ≢ []) × IsStringText (word (after_spaces text)) string × LeadTo (after_word (after_spaces text)) strings left

-- The octets of strings are appended, or there are too many, or the words are no strings.
abbrev pub AppendsStrings : List ℕ → List ℕ → List ℕ → Listed → Type 0
AppendsStrings text old new Strings = (value : FieldValue) × AreTexts text value × (new ≡ old ++ field_wire value)
AppendsStrings text old new TooMany = AreTooMany text
AppendsStrings text old new Others = ((value : FieldValue) → ¬ (AreTexts text value)) × (¬ (AreTooMany text))
