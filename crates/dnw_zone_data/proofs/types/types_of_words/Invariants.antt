use Rattle.std.proofs.Common.{length}
use Rattle.dnw_zone_data.specs.Inside.TypeWords.{LeadToTypes}
use Rattle.dnw_zone_data.proofs.types.types_of_words.Given as goal

-- the types so far, and what is left
abbrev pub invariant-types : goal.invariant-types
invariant-types l = LeadToTypes l.text l.listed.items l.left

abbrev pub decreases-types : goal.decreases-types
decreases-types l = length l.left
