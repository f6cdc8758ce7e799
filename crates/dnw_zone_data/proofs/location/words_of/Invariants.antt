use Rattle.std.proofs.Common.{◌-◌, map}
use Rattle.arrayvec.specs.ArrayVec.{array_vec_len}
use Rattle.dnw_zone_data.proofs.LocationWords.{LeadToWords}
use Rattle.dnw_zone_data.proofs.location.words_of.Given as goal

-- the words so far, and what is left
abbrev pub invariant-words : goal.invariant-words
invariant-words l = LeadToWords l.text (map (λ w. w.now) l.words.items) l.left

abbrev pub decreases-words : goal.decreases-words
decreases-words l = 12 - array_vec_len l.words
