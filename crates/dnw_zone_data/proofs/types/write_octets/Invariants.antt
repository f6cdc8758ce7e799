use Rattle.std.proofs.Common.{◌≡◌, ◌≤◌, ◌+◌, ◌*◌, ◌++◌, length}
use Rattle.std.specs.Prelude.{string_bytes}
use Rattle.dnw_data.specs.TypeSets.{octets_codes}
use Rattle.dnw_zone_data.specs.Bitmaps.{numbers_text}
use Rattle.dnw_zone_data.proofs.types.write_octets.Given as goal

-- what is so far, and what is left, are all
abbrev pub invariant-loop-octet : goal.invariant-loop-octet
invariant-loop-octet l =
    (string_bytes l.out ++ numbers_text l.shown (octets_codes l.code l.left) ≡ string_bytes l.fn.out ++ numbers_text l.shown (octets_codes l.first l.octets))
    × (l.code + 8 * length l.left ≤ 65536)

abbrev pub decreases-loop-octet : goal.decreases-loop-octet
decreases-loop-octet l = length l.left
