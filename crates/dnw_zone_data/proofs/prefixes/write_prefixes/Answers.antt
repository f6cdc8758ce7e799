use Rattle.std.proofs.Common.{arith}
use Rattle.dnw_zone_data.proofs.Whole.{may_take_back, taken_back}
use Rattle.dnw_zone_data.proofs.prefixes.write_prefixes.Goals as goal

pub truncate-requires : goal.truncate-requires
truncate-requires c = λ _. may_take_back _ _ _ _ _ c.if-not-is_whole.true c.in_ok-is_whole.ensures (omega (arith, c.len-start.ensures))

pub returns-then-not-is_whole : goal.returns-then-not-is_whole
returns-then-not-is_whole c =
    taken_back _ _ _ _ _ _ c.if-not-is_whole.true c.in_ok-is_whole.ensures (omega (arith, c.len-start.ensures)) c.truncate.ensures.bytes
