use Rattle.std.proofs.Common.{◌≡◌, ◌≤◌, ◌<◌, ◌-◌, None, length, drop}
use Rattle.dnw_zone_lexer.specs.Times.{max_ttl, time_seconds}
use Rattle.dnw_zone_lexer.specs.Inside.Finds.{seconds_after}
use Rattle.dnw_zone_lexer.proofs.ttl.ttl_seconds.Given as goal

-- what is left, after the groups so far, gives what all gives
abbrev pub invariant-loop-seconds : goal.invariant-loop-seconds
invariant-loop-seconds l = record {
  value : seconds_after l.total None (drop l.index l.text) ≡ time_seconds l.text;
  total : l.total ≤ max_ttl;
  within : l.index < length l.text;
}

abbrev pub decreases-loop-seconds : goal.decreases-loop-seconds
decreases-loop-seconds l = length l.text - l.index
