-- Names made of the labels of an iterator's items.
use Rattle.std.specs.Prelude.{◌≡◌, ℕ, ◌⊎◌, List, map, Some, Result, Err}
use Rattle.std.specs.Iterator.{Drains, YieldsThen}
use Rattle.std.specs.declared.option.Option.{Option}
use Rattle.dnw_base.specs.declared.error.ProtoError.{ProtoError}
use Rattle.dnw_base.specs.declared.error.ProtoError.TheVariants.{Memory}
use Rattle.dnw_base.specs.Fault.{Fault, Follows, NeedsErrorText}
use Rattle.dnw_base.specs.Names.{NameValue}
use Rattle.dnw_name_form.specs.Edits.{from_labels}

module _ {S L : Type 0} (next_gives : S → Option L → S → Type 0) (label_of : L → Result (List ℕ) Fault) (may_run_out : L → Type 0) where
  -- the iterator gave these items and ended, and the result is what their labels give
  abbrev pub JoinsAll : S → Result NameValue ProtoError → Type 0
  JoinsAll it result =
      (items : List L) × Drains next_gives it items
      × Follows (from_labels (map label_of items)) (NeedsErrorText (from_labels (map label_of items))) result

  -- after some items memory ran out as the next one's label was made
  abbrev pub RunsOutAt : S → Result NameValue ProtoError → Type 0
  RunsOutAt it result =
      (items : List L) × (item : L) × (rest : S) × YieldsThen next_gives it items (Some item) rest × may_run_out item × (result ≡ Err Memory)

  abbrev pub JoinsItems : S → Result NameValue ProtoError → Type 0
  JoinsItems it result = JoinsAll it result ⊎ RunsOutAt it result
