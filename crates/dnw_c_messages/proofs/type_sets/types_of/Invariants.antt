use Rattle.std.proofs.Common.{◌≡◌, ◌++◌, map, drop}
use Rattle.dnw_base.specs.RecordTypes.{type_of_code}
use Rattle.dnw_c_messages.proofs.type_sets.types_of.Given as goal

-- what is left, from here, gives what all gives from the start
abbrev pub invariant-loop-code : goal.invariant-loop-code
invariant-loop-code l = l.types.items ++ map type_of_code (drop l.code-index l.codes) ≡ map type_of_code l.codes
