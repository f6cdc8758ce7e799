-- Words and names of files, as they are printed.
use Rattle.std.specs.Prelude.{ℕ, ◌/◌, ◌%◌, ◌+◌, ◌&&◌, nat_le, List, [], ◌∷◌, flat_map, if◌then◌else◌}

-- an octet: printable ASCII stays, and for another one three decimal digits are there after a backslash (RFC 1035, section 5.1)
abbrev pub escaped_octet : ℕ → List ℕ
escaped_octet o = if nat_le 32 o && nat_le o 126 then o ∷ [] else 92 ∷ (48 + o / 100) ∷ (48 + o / 10 % 10) ∷ (48 + o % 10) ∷ []

-- a text, octet by octet
abbrev pub escaped_text : List ℕ → List ℕ
escaped_text octets = flat_map escaped_octet octets
