use Rattle.std.proofs.Common.{◌≡◌, ℕ, ◌-◌, ◌<◌, ◌≤◌, length, get_or}
use Rattle.dnw_write_suffixes.proofs.octets.are_same.Given as goal

-- those before are the same
abbrev pub invariant-eights : goal.invariant-eights
invariant-eights l = record {
  within : l.index ≤ length l.own;
  same : (k : ℕ) → k < l.index → get_or l.own k 0 ≡ get_or l.other k 0;
}

abbrev pub decreases-eights : goal.decreases-eights
decreases-eights l = length l.own - l.index

abbrev pub invariant-fours : goal.invariant-fours
invariant-fours l = record {
  within : l.index ≤ length l.own;
  same : (k : ℕ) → k < l.index → get_or l.own k 0 ≡ get_or l.other k 0;
}

abbrev pub decreases-fours : goal.decreases-fours
decreases-fours l = length l.own - l.index

abbrev pub invariant-rest : goal.invariant-rest
invariant-rest l = record {
  within : l.index ≤ length l.own;
  same : (k : ℕ) → k < l.index → get_or l.own k 0 ≡ get_or l.other k 0;
}

abbrev pub decreases-rest : goal.decreases-rest
decreases-rest l = length l.own - l.index
