use Rattle.std.proofs.Common.{length, ap, arith}
use Rattle.std.proofs.lemmas.List.{length-take}
use Rattle.dnw_data.proofs.Windows.{pushed_window, pushed_all}
use Rattle.dnw_data.proofs.record_type_set.bitmap.push_windows.Goals as goal

pub push_octets-requires : goal.push_octets-requires
push_octets-requires c = omega (arith, ap length c.split_at_most.ensures.front, length-take 32 c.in-Some.octets.now)

pub loop-number-preserved : goal.loop-number-preserved
loop-number-preserved c =
    pushed_window c.loop-number.types.items c.push_octets.new.types.items _ c.loop-number.rest.now c.in-Some.others.now c.in-Some.octets.now c.split_at_most.result.0.now
    c.in-Some.number c.in-Some.ensures c.split_at_most.ensures.front c.in_ok-push_octets.ensures.ok c.loop-number.invariant

pub returns : goal.returns
returns c = record { ok = pushed_all c.loop-number.types.items _ c.loop-number.rest.now c.in_default.ensures c.loop-number.invariant }
