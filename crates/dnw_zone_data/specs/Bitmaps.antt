-- Bitmaps without windows: the ports of WKS (RFC 1035, section 3.4.2), and the record types of NXT (RFC 2535, section 5.2). Bit n stands
-- for the number n, and bit 0 is the highest of the first octet. The text has the numbers whose bits are set, each a word: in any order
-- when they are parsed, and ascending when they are printed. A bitmap has no zero octets at its end.
use Rattle.std.specs.Prelude.{ℕ, ◌≡◌, ◌≢◌, ◌≤◌, ◌+◌, ◌/◌, ◌%◌, ◌&&◌, Bool, true, false, nat_le, nat_lt, List, [], ◌∷◌, length, slice_index, slice_set, flat_map, decimal}
use Rattle.std.specs.Int.Bits.{bit_or}
use Rattle.dnw_base.specs.declared.record_type.RecordType.{RecordType}
use Rattle.dnw_base.specs.RecordTypes.{type_code}
use Rattle.dnw_data.specs.declared.kind.Shown.{Shown}
use Rattle.dnw_data.specs.declared.kind.Shown.TheVariants.{Ports, OldTypes}
use Rattle.dnw_data.specs.TypeSets.{octets_codes}
use Rattle.dnw_zone_values.specs.Mnemonics.{service_named, IsNumberOrName}
use Rattle.dnw_zone_values.specs.Numbers.{max_u16}
use Rattle.dnw_zone_values.specs.Prefixes.{ends_in_no_zero, with_zeros}
use Rattle.dnw_zone_data.specs.TypeLists.{code_text, IsTypeWord}
use Rattle.dnw_zone_data.specs.Words.{after_spaces, word, after_word}

-- the greatest type of a bitmap without windows: one above it is a case for another format
abbrev pub max_old_type : ℕ
max_old_type = 127

-- the most octets of a bitmap of ports
abbrev pub max_port_octets : ℕ
max_port_octets = 8192

-- the most octets of a bitmap of types
abbrev pub max_type_octets : ℕ
max_type_octets = 16

-- ---- parsing

-- the values of the bits of an octet, from the highest
abbrev pub bit_values : List ℕ
bit_values = 128 ∷ 64 ∷ 32 ∷ 16 ∷ 8 ∷ 4 ∷ 2 ∷ 1 ∷ []

-- octets with a bit, after zeros if they end before it
abbrev pub with_number : ℕ → List ℕ → List ℕ
with_number n own =
    let all = with_zeros (n / 8 + 1) own in
    slice_set all (n / 8) (bit_or (slice_index all (n / 8)) (slice_index bit_values (n % 8)))

abbrev pub with_numbers : List ℕ → List ℕ → List ℕ
with_numbers [] own = own
with_numbers (n ∷ ns) own = with_numbers ns (with_number n own)

-- a word is a port: its number, or the name of a service
abbrev pub IsPortWord : List ℕ → ℕ → Type 0
IsPortWord text n = IsNumberOrName service_named max_u16 text n

-- a word is a type that such a bitmap has; type 0 stands for another format
abbrev pub IsOldTypeWord : List ℕ → ℕ → Type 0
IsOldTypeWord text n = (kind : RecordType) × IsTypeWord text kind × (n ≡ type_code kind) × (1 ≤ n) × (n ≤ max_old_type)

-- a word is a number of a bitmap
abbrev pub IsBitWord : Shown → List ℕ → ℕ → Type 0
IsBitWord Ports text n = IsPortWord text n
IsBitWord OldTypes text n = IsOldTypeWord text n
IsBitWord shown text n = ⊥

-- the words of a text are these numbers; there may be none
abbrev pub AreBitWords : Shown → List ℕ → List ℕ → Type 0
AreBitWords shown left [] = after_spaces left ≡ []
AreBitWords shown left (n ∷ ns) =
    (after_spaces left ≢ []) × IsBitWord shown (word (after_spaces left)) n × AreBitWords shown (after_word (after_spaces left)) ns

-- the words of a text are numbers, and these octets are their bitmap
abbrev pub AreBits : Shown → List ℕ → List ℕ → Type 0
AreBits shown left own = (ns : List ℕ) × AreBitWords shown left ns × (own ≡ with_numbers ns [])

-- ---- printing

-- the octets are a bitmap of ports, or one of types with none above the greatest and not type 0, and cannot be shorter
abbrev pub is_bitmap : Shown → List ℕ → Bool
is_bitmap Ports own = nat_le (length own) max_port_octets && ends_in_no_zero own
is_bitmap OldTypes own = nat_le (length own) max_type_octets && (nat_lt (slice_index own 0) 128 && ends_in_no_zero own)
is_bitmap shown own = false

-- a number of a bitmap after a space
abbrev pub number_text : Shown → ℕ → List ℕ
number_text OldTypes n = code_text n
number_text shown n = 32 ∷ decimal n

abbrev pub numbers_text : Shown → List ℕ → List ℕ
numbers_text shown ns = flat_map (number_text shown) ns

-- The text is that of the numbers whose bits are set.
abbrev pub PrintsBits : Shown → List ℕ → List ℕ → Type 0
PrintsBits shown own text = (is_bitmap shown own ≡ true) × (text ≡ numbers_text shown (octets_codes 0 own))
