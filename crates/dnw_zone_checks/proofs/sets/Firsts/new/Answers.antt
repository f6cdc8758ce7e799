use Rattle.std.proofs.Common.{None, sym, subst, arith}
use Rattle.dnw_zone_checks.specs.Inside.Seeking.{IsLastOfType}
use Rattle.dnw_zone_checks.proofs.sets.Firsts.new.Goals as goal

pub returns : goal.returns
returns c = λ records. record {
  all_types = omega (arith, c.in_ok-resize.ensures.len, c.resize.new.self.ok.0);
  each = λ code below.
      subst (IsLastOfType records 0 code) (sym (c.resize.ensures.by_index.1 code None (rw c.in_ok-resize.was) (omega (arith, c.new-numbers.ensures.len)) below))
      (λ k d h. absurd (omega arith));
}
