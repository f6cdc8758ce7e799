use Rattle.std.proofs.Common.{◌≡◌, ◌+◌, ◌<◌, List, ◌∷◌, ◌++◌, ℕ, length}
use Rattle.std.specs.List.{flat_map}
use Rattle.arrayvec.specs.ArrayString.{array_string_len}
use Rattle.dnw_name_form.specs.LabelText.{dot}
use Rattle.dnw_name_text.specs.NameTexts.{label_octets}
use Rattle.dnw_name_text.specs.AsciiText.{max_text}
use Rattle.dnw_name_text.proofs.AsciiSizes.{text_room}
use Rattle.dnw_name_text.proofs.printing.push_labels.Given as goal

-- what is written, and what is left, make what the labels after the first are written as
abbrev pub invariant-loop-label : goal.invariant-loop-label
invariant-loop-label l = record {
  text : l.out.bytes ++ flat_map (λ (label : List ℕ). dot ∷ label_octets label) l.labels
      ≡ l.initial.out.bytes ++ flat_map (λ (label : List ℕ). dot ∷ label_octets label) l.initial.labels;
  room : array_string_len l.out + text_room l.labels < max_text;
}

abbrev pub decreases-loop-label : goal.decreases-loop-label
decreases-loop-label l = length l.labels
