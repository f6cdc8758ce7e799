-- The search for a suffix that a pointer can stand for.
use Rattle.std.specs.Prelude.{◌≡◌, ℕ, ◌<◌, ◌≤◌, List, length, take, drop}
use Rattle.dnw_base.specs.Names.{labels_wire}
use Rattle.dnw_write_suffixes.specs.Candidates.{NoneUsable}
use Rattle.dnw_write.specs.Encoder.{Encoder}
use Rattle.dnw_write.specs.EmittedName.{Points, Share, so_far}

-- No candidate is usable for more than all but the first n labels.
abbrev pub NoneSharedBefore : Encoder → List (List ℕ) → ℕ → Type 0
NoneSharedBefore v labels n = (i : ℕ) → i < n → NoneUsable (so_far v) v.candidates (drop i labels)

-- A pointer can stand for what follows the first n labels, which have so many bytes.
pub record IsSuffix (v : Encoder) (labels : List (List ℕ)) (n size target : ℕ) : Type 0 where
  pub within : n ≤ length labels
  pub points : Points v labels (take n labels) (drop n labels) target
  pub size_is : size ≡ length (labels_wire (take n labels))

abbrev pub share_of : List (List ℕ) → ℕ → ℕ → Share
share_of labels n target = record { front = take n labels; back = drop n labels; target = target }
