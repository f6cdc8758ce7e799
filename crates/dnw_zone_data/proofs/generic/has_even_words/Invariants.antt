use Rattle.std.proofs.Common.{◌≡◌, true, length}
use Rattle.dnw_zone_data.specs.Generic.{has_even_words}
use Rattle.dnw_zone_data.proofs.generic.has_even_words.Given as goal

abbrev pub invariant-loop-c : goal.invariant-loop-c
invariant-loop-c l = has_even_words l.is_even l.left ≡ has_even_words true l.words

abbrev pub decreases-loop-c : goal.decreases-loop-c
decreases-loop-c l = length l.left
