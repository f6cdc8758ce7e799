-- Labels (RFC 1035, sections 2.3.4 and 3.1).
use Rattle.std.specs.Prelude.{ℕ, ◌≤◌, List, [], ◌∷◌, length}
use Rattle.dnw_base.specs.Limits.{max_label}

-- A label has 1 to 63 octets.
pub record IsLabel (l : List ℕ) : Type 0 where
  pub not_empty : 1 ≤ length l
  pub not_long : length l ≤ max_label

-- the octet of `*`
abbrev pub asterisk : ℕ
asterisk = 42

-- the label `*` (RFC 4592, section 2.1.1)
abbrev pub wildcard : List ℕ
wildcard = asterisk ∷ []
