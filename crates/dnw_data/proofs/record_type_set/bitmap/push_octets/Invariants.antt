use Rattle.std.proofs.Common.{◌≡◌, ◌+◌, ◌*◌, ◌++◌, map, drop}
use Rattle.dnw_base.specs.RecordTypes.{type_of_code}
use Rattle.dnw_data.specs.TypeSets.{octets_codes}
use Rattle.dnw_data.proofs.record_type_set.bitmap.push_octets.Given as goal

-- what is left, from here, gives what all gives from the start
abbrev pub invariant-loop-index : goal.invariant-loop-index
invariant-loop-index l =
    l.types.items ++ map type_of_code (octets_codes (l.first + 8 * l.index) (drop l.index l.octets))
    ≡ l.initial.types.items ++ map type_of_code (octets_codes l.first l.octets)
