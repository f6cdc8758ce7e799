use Rattle.std.proofs.Common.{◌≡◌}
use Rattle.test_bench.proofs.zones.dnw_read_zone.Given as goal

abbrev pub invariant-loop-round : goal.invariant-loop-round
invariant-loop-round l = l._round ≡ 0 → l.sum ≡ 0
