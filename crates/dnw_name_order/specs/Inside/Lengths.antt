-- Wire forms without their last label.
use Rattle.std.specs.Prelude.{◌≡◌, ℕ, List, ◌∷◌, reverse}
use Rattle.dnw_name_form.specs.Inside.Lengths.{HasLengths}
use Rattle.dnw_name_form.specs.Inside.WireBytes.{closed, labels_of, IsWire}

-- A wire form without its last label, and the lengths of the labels that are left; no form has its closing zero.
pub record SplitsBack (bytes before label : List ℕ) (lengths : ℕ) : Type 0 where
  pub labels : reverse (labels_of (closed bytes)) ≡ label ∷ reverse (labels_of (closed before))
  pub others : IsWire (closed before)
  pub known : HasLengths (reverse (labels_of (closed before))) lengths
