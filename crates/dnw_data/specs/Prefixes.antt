-- Address prefixes (RFC 3123, section 4): a family, the length of the prefix in bits, a bit that negates it and the number of
-- octets, and the octets.
use Rattle.std.specs.Prelude.{ℕ, ◌+◌, ◌-◌, ◌%◌, ◌==◌, ◌&&◌, Bool, not, nat_le, nat_lt, if◌then◌else◌, Option, Some, None, List, length, slice_index, slice_range}
use Rattle.std.specs.Int.{w16, from_be_bytes}
use Rattle.dnw_base.specs.declared.error.DecodeError.{DecodeError}
use Rattle.dnw_base.specs.declared.error.DecodeError.TheVariants.{UnknownAddressFamily}

abbrev pub family_of : List ℕ → ℕ
family_of octets = from_be_bytes w16 (slice_range octets 0 2)

-- how many octets follow the family
abbrev pub prefix_size : List ℕ → ℕ
prefix_size octets = 2 + slice_index octets 3 % 128

-- the longest prefix of a family: of IPv4, IPv6 (RFC 3123, sections 4.1 and 4.2) or one that is not known
abbrev pub most_bits : ℕ → ℕ
most_bits family = if family == 1 then 32 else if family == 2 then 128 else 255

-- the most octets of an address of a family
abbrev pub most_octets : ℕ → ℕ
most_octets family = if family == 1 then 4 else if family == 2 then 16 else 127

-- the last octet is not zero, if there is one (RFC 3123, section 4)
abbrev pub ends_well : List ℕ → Bool
ends_well own = not (nat_lt 4 (length own) && slice_index own (length own - 1) == 0)

-- the octets of a prefix are one of its family
abbrev pub is_prefix : List ℕ → Bool
is_prefix own =
    nat_le (slice_index own 2) (most_bits (family_of own)) && nat_le (length own) (4 + most_octets (family_of own)) && ends_well own

abbrev pub prefix_fault : List ℕ → Option DecodeError
prefix_fault own = if is_prefix own then None else Some (UnknownAddressFamily (family_of own))
