-- Fields whose first octets say what follows them.
use Rattle.std.specs.Prelude.{◌≡◌, ◌≢◌, ◌⊎◌, ℕ, ◌+◌, ◌-◌, ◌%◌, ◌/◌, ◌==◌, nat_le, nat_lt, if◌then◌else◌, Option, Some, None, List, length, drop, slice_index, slice_range}
use Rattle.std.specs.Int.{w16, from_be_bytes}
use Rattle.dnw_base.specs.declared.error.DecodeError.{DecodeError}
use Rattle.dnw_base.specs.declared.error.DecodeError.TheVariants.{InsufficientBytes, UnknownAddressFamily}
use Rattle.dnw_data.specs.declared.kind.Shape.{Shape}
use Rattle.dnw_data.specs.declared.kind.Shape.TheVariants.{Location, Gateway, Relay, HostIdentity, AddressSuffix}
use Rattle.dnw_data.specs.WholeNames.{name_size, name_fault}

-- the octets of a location of version 0 (RFC 1876, section 2)
abbrev pub location_size : ℕ
location_size = 16

-- the octets of a gateway of this type: none, an IPv4 address, an IPv6 address, or a name (RFC 4025, section 2.5)
abbrev pub gateway_size : ℕ → List ℕ → ℕ
gateway_size type left =
    if type == 1 then 4 else if type == 2 then 16 else if type == 3 then name_size left else 0

-- those of a relay (RFC 8777, section 4.2.4), which are all that are left if its type is not known
abbrev pub relay_size : ℕ → List ℕ → ℕ
relay_size type left = if nat_lt 3 type then length left else gateway_size type left

-- the octets before a tag and a key (RFC 8005, section 5)
abbrev pub identity_head : ℕ
identity_head = 4

abbrev pub identity_size : List ℕ → ℕ
identity_size left =
    if nat_lt (length left) identity_head then identity_head
    else identity_head + slice_index left 0 + from_be_bytes w16 (slice_range left 2 4)

-- the octets of an address of 128 bits that are not all in a prefix of this length (RFC 2874, section 3.1.1): the bits of the
-- prefix in the first of them are padding
abbrev pub suffix_size : ℕ → ℕ
suffix_size prefix = (135 - prefix) / 8

-- how many octets a field of a shape takes of those that are left
abbrev pub shape_size : Shape → List ℕ → ℕ
shape_size Location left = if slice_index left 0 == 0 then location_size else length left
shape_size Gateway left = 2 + gateway_size (slice_index left 0) (drop 2 left)
shape_size Relay left = 1 + relay_size (slice_index left 0 % 128) (drop 1 left)
shape_size HostIdentity left = identity_size left
shape_size AddressSuffix left = 1 + suffix_size (slice_index left 0)

-- why a gateway or a relay of this type is none, if it is none: nothing is known of one of another type
abbrev pub relay_fault : ℕ → List ℕ → Option DecodeError
relay_fault type own = if type == 3 then name_fault own else None

abbrev pub gateway_fault : ℕ → List ℕ → Option DecodeError
gateway_fault type own = if nat_lt 3 type then Some (UnknownAddressFamily type) else relay_fault type own

-- why there is no prefix of this length: one of IPv6, which is family 2, has at most 128 bits
abbrev pub suffix_fault : ℕ → Option DecodeError
suffix_fault prefix = if nat_lt 128 prefix then Some (UnknownAddressFamily 2) else None

-- why octets have no such shape, if they have not
abbrev pub shape_fault : Shape → List ℕ → Option DecodeError
shape_fault Gateway own = gateway_fault (slice_index own 0) (drop 2 own)
shape_fault Relay own = relay_fault (slice_index own 0 % 128) (drop 1 own)
shape_fault AddressSuffix own = suffix_fault (slice_index own 0)
shape_fault shape own = None

-- Octets of a shape.
pub record ShapedValue : Type 0 where
  pub shape : Shape
  pub octets : List ℕ

-- They are as many as they say, and right.
pub record IsShaped (shape : Shape) (own : List ℕ) : Type 0 where
  pub size : length own ≡ shape_size shape own
  pub right : shape_fault shape own ≡ None

-- They are not, for this reason.
abbrev pub FailsShape : Shape → List ℕ → DecodeError → Type 0
FailsShape shape own error =
    ((length own ≢ shape_size shape own) × (error ≡ InsufficientBytes))
    ⊎ ((length own ≡ shape_size shape own) × (shape_fault shape own ≡ Some error))
