-- Names in their wire form (RFC 1035, section 3.1), in data where no name may have a pointer (RFC 4025, section 2.5; RFC 8005,
-- section 5.4; RFC 8777, section 4.2.4).
use Rattle.std.specs.Prelude.{ℕ, zero, suc, ◌+◌, ◌-◌, ◌==◌, ◌&&◌, nat_le, nat_lt, if◌then◌else◌, Option, Some, None, List, length, drop, slice_index}
use Rattle.dnw_base.specs.declared.error.DecodeError.{DecodeError}
use Rattle.dnw_base.specs.declared.error.DecodeError.TheVariants.{DomainNameTooLong, UnrecognizedLabelCode}

-- how many octets labels take, n at most, with the octet after the last: the closing zero, or one that begins no label
abbrev pub labels_size : ℕ → List ℕ → ℕ
labels_size zero left = 1
labels_size (suc n) left =
    if nat_le 1 (slice_index left 0) && nat_le (slice_index left 0) 63
    then 1 + slice_index left 0 + labels_size n (drop (1 + slice_index left 0) left) else 1

-- more labels than these have more octets than a name
abbrev pub most_labels : ℕ
most_labels = 128

-- how many octets the name takes that these begin with: more than there are if they end within it
unfoldable pub name_size : List ℕ → ℕ
name_size left = labels_size most_labels left

-- Why octets of this size are no name, if they are none: they are more than 255, or the last begins no label, as that of a
-- pointer does.
abbrev pub name_fault : List ℕ → Option DecodeError
name_fault own =
    if nat_lt 255 (length own) then Some (DomainNameTooLong (length own))
    else if slice_index own (length own - 1) == 0 then None else Some (UnrecognizedLabelCode (slice_index own (length own - 1)))
