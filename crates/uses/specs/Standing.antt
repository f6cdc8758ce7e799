-- Names that stand in a message.
use Rattle.std.specs.Prelude.{ℕ, List}
use Rattle.dns_names_wire.specs.Words.{NameValue, NameAt}

-- The name is read at some offset of the message.
abbrev pub StandsIn : List ℕ → NameValue → Type 0
StandsIn message name = (start end pointers : ℕ) × NameAt message start name.labels end pointers
