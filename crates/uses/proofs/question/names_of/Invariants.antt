use Rattle.std.proofs.Common.{◌≡◌}
use Rattle.std.specs.List.{AllByRecursion}
use Rattle.uses.specs.Standing.{StandsIn}
use Rattle.uses.proofs.question.names_of.Given as goal

-- The decoder reads this message, and the names so far stand in it.
abbrev pub invariant-loop : goal.invariant-loop
invariant-loop l = (l.decoder.bytes ≡ l.message) × AllByRecursion (StandsIn l.message) l.names.items

abbrev pub invariant-loop-2 : goal.invariant-loop-2
invariant-loop-2 l = (l.decoder.bytes ≡ l.message) × AllByRecursion (StandsIn l.message) l.names.items
