-- Wire forms with the lengths of their last labels.
use Rattle.std.specs.Prelude.{ℕ, List, reverse}
use Rattle.dnw_name_form.specs.Inside.Lengths.{HasLengths}
use Rattle.dnw_name_form.specs.Inside.WireBytes.{labels_of, IsWire}

-- The octets are a wire form, and these are the lengths of its last labels.
pub record HasLastLengths (octets : List ℕ) (lengths : ℕ) : Type 0 where
  pub wire : IsWire octets
  pub known : HasLengths (reverse (labels_of octets)) lengths
