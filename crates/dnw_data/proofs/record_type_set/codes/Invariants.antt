use Rattle.std.proofs.Common.{◌≡◌, ◌++◌, map, drop}
use Rattle.dnw_base.specs.RecordTypes.{type_code}
use Rattle.dnw_data.proofs.record_type_set.codes.Given as goal

-- what is left, from here, gives what all gives from the start
abbrev pub invariant-loop-record_type : goal.invariant-loop-record_type
invariant-loop-record_type l = l.codes.items ++ map type_code (drop l.record_type-index l.types) ≡ map type_code l.types
