-- Tags (RFC 8659, section 4.1.1): one letter or digit or more, written as they are.
use Rattle.std.specs.Prelude.{◌≡◌, ◌≤◌, ℕ, List, length}
use Rattle.std.specs.List.{AllPass}
use Rattle.std.specs.Char.{is_ascii_alphanumeric}

-- a tag has at most 255 octets, since their number is written in one (RFC 8659, section 4.1)
abbrev pub IsTag : List ℕ → Type 0
IsTag tag = (1 ≤ length tag) × (length tag ≤ 255) × AllPass is_ascii_alphanumeric tag

-- the text is this tag
abbrev pub IsTagText : List ℕ → List ℕ → Type 0
IsTagText text tag = (text ≡ tag) × IsTag tag
