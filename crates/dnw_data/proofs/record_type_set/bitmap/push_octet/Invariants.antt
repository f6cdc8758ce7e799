use Rattle.std.proofs.Common.{◌≡◌, ◌+◌, ◌≤◌, ◌++◌, map, drop, vec_len, vec_capacity}
use Rattle.std.specs.List.{flat_map}
use Rattle.dnw_base.specs.RecordTypes.{type_of_code}
use Rattle.dnw_data.specs.TypeSets.{bits, bit_codes, octet_codes}
use Rattle.dnw_data.proofs.record_type_set.bitmap.push_octet.Given as goal

-- what is left, from here, gives what all gives from the start; and there is room for it
abbrev pub invariant-loop-bit : goal.invariant-loop-bit
invariant-loop-bit l =
    (l.types.items ++ map type_of_code (flat_map (bit_codes l.first l.octet) (drop l.bit bits))
    ≡ l.initial.types.items ++ map type_of_code (octet_codes l.first l.octet))
    × (vec_len l.types + 8 ≤ vec_capacity l.types + l.bit)
