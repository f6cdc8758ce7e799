-- A name's text without that of an origin at its end.
use Rattle.std.specs.Prelude.{ℕ, ◌-◌, nat_le, if◌then◌else◌, List, [], ◌∷◌, length, take}

-- without the last so many octets and the dot before them; `@` if nothing else is there
abbrev pub before_ending : List ℕ → ℕ → List ℕ
before_ending whole size = if nat_le (length whole) size then 64 ∷ [] else take (length whole - size - 1) whole
