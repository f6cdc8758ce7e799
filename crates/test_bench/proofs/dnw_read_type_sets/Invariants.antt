use Rattle.std.proofs.Common.{◌≡◌}
use Rattle.test_bench.proofs.dnw_read_type_sets.Given as goal

abbrev pub invariant-loop-round : goal.invariant-loop-round
invariant-loop-round l = l._round ≡ 0 → l.sum ≡ 0
