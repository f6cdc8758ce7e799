use Rattle.std.proofs.Common.{arith}
use Rattle.std.specs.Prelude.{string_bytes}
use Rattle.dnw_zone_values.proofs.Steps.{may_cut, cut_off}
use Rattle.dnw_zone_values.proofs.printing.write_params.Goals as goal

pub truncate-requires : goal.truncate-requires
truncate-requires c =
    let pushed = rw c.if-not-is_whole.true at c.in_ok-is_whole.ensures in
    λ _. may_cut (string_bytes c.args.out.now) _ c.len-start.result pushed.ok.1 (omega (arith, c.len-start.ensures))

pub returns-then-not-is_whole-clause-ok : goal.returns-then-not-is_whole-clause-ok
returns-then-not-is_whole-clause-ok c =
    let pushed = rw c.if-not-is_whole.true at c.in_ok-is_whole.ensures in
    rw c.if-not-is_whole.true (pushed.ok.0, cut_off (string_bytes c.args.out.now) _ _ c.len-start.result pushed.ok.1 (omega (arith, c.len-start.ensures)) c.truncate.ensures.bytes)
