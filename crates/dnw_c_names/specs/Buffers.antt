-- What the functions for C leave in the caller's buffers.
use Rattle.std.specs.Prelude.{◌≡◌, ◌<◌, ℕ, List, length}
use Rattle.dnw_name_read.specs.Buffers.{put}

-- The bytes are put into a buffer if they fit. Else it is unchanged.
pub record PutsIfFits (buffer bytes after : List ℕ) : Type 0 where
  pub fits : (length buffer < length bytes → ⊥) → after ≡ put buffer bytes
  pub short : length buffer < length bytes → after ≡ buffer
