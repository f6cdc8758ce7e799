use Rattle.std.proofs.Common.{◌≡◌, ◌++◌, length}
use Rattle.std.specs.String.{string_bytes}
use Rattle.dnw_commands.specs.Plain.{escaped_text}
use Rattle.dnw_commands.proofs.base.plain.push_plain.Given as goal

abbrev pub invariant-octets : goal.invariant-octets
invariant-octets l = string_bytes l.shown ++ escaped_text l.left ≡ string_bytes l.fn.shown ++ escaped_text l.fn.octets

abbrev pub decreases-octets : goal.decreases-octets
decreases-octets l = length l.left
