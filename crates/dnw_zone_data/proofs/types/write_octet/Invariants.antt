use Rattle.std.proofs.Common.{◌≡◌, ◌++◌, drop}
use Rattle.std.specs.List.{flat_map}
use Rattle.std.specs.Prelude.{string_bytes}
use Rattle.dnw_data.specs.TypeSets.{bits, bit_codes, octet_codes}
use Rattle.dnw_zone_data.specs.Bitmaps.{numbers_text}
use Rattle.dnw_zone_data.proofs.types.write_octet.Given as goal

-- what is so far, and what is left, are all
abbrev pub invariant-loop-bit : goal.invariant-loop-bit
invariant-loop-bit l =
    string_bytes l.out ++ numbers_text l.shown (flat_map (bit_codes l.first l.octet) (drop l.bit bits)) ≡ string_bytes l.fn.out ++ numbers_text l.shown (octet_codes l.first l.octet)
