-- The types that a bitmap lists (RFC 4034, section 4.1.2).
use Rattle.std.specs.Prelude.{◌≡◌, ℕ, List}
use Rattle.std.specs.List.{Any}
use Rattle.dns_names_wire.specs.Words.{AreWindows, HasBit, RecordType, Window, type_of_code}

-- The bytes are windows, and one of them has the bit of a code of the type.
abbrev pub IsListed : List ℕ → RecordType → Type 0
IsListed bytes kind = (windows : List Window) × (code : ℕ) × AreWindows windows bytes × Any (HasBit code) windows × (type_of_code code ≡ kind)
