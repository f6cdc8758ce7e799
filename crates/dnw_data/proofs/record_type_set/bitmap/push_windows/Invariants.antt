use Rattle.std.proofs.Common.{◌≡◌, ◌++◌, map, length}
use Rattle.dnw_base.specs.RecordTypes.{type_of_code}
use Rattle.dnw_data.specs.TypeSets.{windows_of, windows_codes}
use Rattle.dnw_data.proofs.record_type_set.bitmap.push_windows.Given as goal

-- what is left, from here, gives what all gives from the start
abbrev pub invariant-loop-number : goal.invariant-loop-number
invariant-loop-number l = l.types.items ++ map type_of_code (windows_codes (windows_of l.rest)) ≡ l.initial.types.items ++ map type_of_code (windows_codes (windows_of l.bitmap))

abbrev pub decreases-loop-number : goal.decreases-loop-number
decreases-loop-number l = length l.rest
