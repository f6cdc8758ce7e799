use Rattle.std.proofs.Common.{◌≡◌, ◌++◌, ℕ, List, length}
use Rattle.std.specs.Prelude.{string_bytes, flat_map}
use Rattle.dnw_base.specs.Names.{label_wire}
use Rattle.dnw_zone_data.specs.Printing.{strings_text}
use Rattle.dnw_zone_data.proofs.printing.push_strings.Given as goal

-- the strings so far, and what is left
abbrev pub invariant-loop-len : goal.invariant-loop-len
invariant-loop-len l =
    (strings : List (List ℕ)) × (l.octets ≡ flat_map label_wire strings ++ l.left) × (string_bytes l.out ≡ string_bytes l.fn.out ++ strings_text strings)

abbrev pub decreases-loop-len : goal.decreases-loop-len
decreases-loop-len l = length l.left
