use Rattle.std.proofs.Common.{◌≡◌, ◌++◌, length, map}
use Rattle.dnw_base.specs.RecordTypes.{type_code}
use Rattle.dnw_c_messages.proofs.type_sets.codes_of.Given as goal

-- what is left, from here, gives what all gives from the start
abbrev pub invariant-types : goal.invariant-types
invariant-types l = l.codes.items ++ map type_code l.types ≡ map type_code l.set.types

abbrev pub decreases-types : goal.decreases-types
decreases-types l = length l.types
