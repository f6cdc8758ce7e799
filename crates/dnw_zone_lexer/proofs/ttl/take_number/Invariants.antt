use Rattle.std.proofs.Common.{◌≡◌, ◌≤◌, ◌<◌, ◌-◌, ℕ, None, Some, length, drop}
use Rattle.dnw_zone_lexer.specs.Times.{max_ttl}
use Rattle.dnw_zone_lexer.specs.Inside.Finds.{seconds_after}
use Rattle.dnw_zone_lexer.proofs.ttl.take_number.Given as goal

-- what is left, after the digits so far, gives what all gives
abbrev pub invariant-loop-end : goal.invariant-loop-end
invariant-loop-end l = record {
  value : (total : ℕ) → seconds_after total None (drop l.start l.text) ≡ seconds_after total (Some l.number) (drop l.end l.text);
  number : l.number ≤ max_ttl;
  begins : l.start < l.end;
  ends : l.end ≤ length l.text;
}

abbrev pub decreases-loop-end : goal.decreases-loop-end
decreases-loop-end l = length l.text - l.end
