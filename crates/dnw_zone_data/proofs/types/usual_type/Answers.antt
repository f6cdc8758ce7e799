use Rattle.std.proofs.Common.{arith}
use Rattle.dnw_zone_data.proofs.UsualWords as usual
use Rattle.dnw_zone_data.proofs.types.usual_type.Goals as goal

pub returns-in-len1 : goal.returns-in-len1
returns-in-len1 c = usual.usual_a c.args.word.now (omega (arith, c.in-len1.len_at_least, c.in-len1.len_below)) (c.if-a-eq65.true, tt)

pub returns-in-78-eq83 : goal.returns-in-78-eq83
returns-in-78-eq83 c =
    usual.usual_ns c.args.word.now (omega (arith, c.in-len2.len_at_least, c.in-len2.len_below)) (c.in-78-eq83.is-0, (c.in-78-eq83.is-1, tt))

pub returns-in-68-eq83 : goal.returns-in-68-eq83
returns-in-68-eq83 c =
    usual.usual_ds c.args.word.now (omega (arith, c.in-len2.len_at_least, c.in-len2.len_below)) (c.in-68-eq83.is-0, (c.in-68-eq83.is-1, tt))

pub returns-in-77-eq88 : goal.returns-in-77-eq88
returns-in-77-eq88 c =
    usual.usual_mx c.args.word.now (omega (arith, c.in-len2.len_at_least, c.in-len2.len_below)) (c.in-77-eq88.is-0, (c.in-77-eq88.is-1, tt))

pub returns-in-84-eq88-eq84 : goal.returns-in-84-eq88-eq84
returns-in-84-eq88-eq84 c =
    usual.usual_txt c.args.word.now (omega (arith, c.in-len3.len_at_least, c.in-len3.len_below)) (c.in-84-eq88-eq84.is-0, (c.in-84-eq88-eq84.is-1, (c.in-84-eq88-eq84.is-2, tt)))

pub returns-in-80-eq84-eq82 : goal.returns-in-80-eq84-eq82
returns-in-80-eq84-eq82 c =
    usual.usual_ptr c.args.word.now (omega (arith, c.in-len3.len_at_least, c.in-len3.len_below)) (c.in-80-eq84-eq82.is-0, (c.in-80-eq84-eq82.is-1, (c.in-80-eq84-eq82.is-2, tt)))

pub returns-in-83-eq82-eq86 : goal.returns-in-83-eq82-eq86
returns-in-83-eq82-eq86 c =
    usual.usual_srv c.args.word.now (omega (arith, c.in-len3.len_at_least, c.in-len3.len_below)) (c.in-83-eq82-eq86.is-0, (c.in-83-eq82-eq86.is-1, (c.in-83-eq82-eq86.is-2, tt)))

pub returns-in-83-eq79-eq65 : goal.returns-in-83-eq79-eq65
returns-in-83-eq79-eq65 c =
    usual.usual_soa c.args.word.now (omega (arith, c.in-len3.len_at_least, c.in-len3.len_below)) (c.in-83-eq79-eq65.is-0, (c.in-83-eq79-eq65.is-1, (c.in-83-eq79-eq65.is-2, tt)))

pub returns-in-67-eq65-eq65 : goal.returns-in-67-eq65-eq65
returns-in-67-eq65-eq65 c =
    usual.usual_caa c.args.word.now (omega (arith, c.in-len3.len_at_least, c.in-len3.len_below)) (c.in-67-eq65-eq65.is-0, (c.in-67-eq65-eq65.is-1, (c.in-67-eq65-eq65.is-2, tt)))

pub returns-in-65-eq65-eq65-eq65 : goal.returns-in-65-eq65-eq65-eq65
returns-in-65-eq65-eq65-eq65 c =
    usual.usual_aaaa c.args.word.now (omega (arith, c.in-len4.len_at_least, c.in-len4.len_below)) (c.in-65-eq65-eq65-eq65.is-0, (c.in-65-eq65-eq65-eq65.is-1, (c.in-65-eq65-eq65-eq65.is-2, (c.in-65-eq65-eq65-eq65.is-3, tt))))

pub returns-in-78-eq83-eq69-eq67 : goal.returns-in-78-eq83-eq69-eq67
returns-in-78-eq83-eq69-eq67 c =
    usual.usual_nsec c.args.word.now (omega (arith, c.in-len4.len_at_least, c.in-len4.len_below)) (c.in-78-eq83-eq69-eq67.is-0, (c.in-78-eq83-eq69-eq67.is-1, (c.in-78-eq83-eq69-eq67.is-2, (c.in-78-eq83-eq69-eq67.is-3, tt))))

pub returns-in-82-eq82-eq83-eq73-eq71 : goal.returns-in-82-eq82-eq83-eq73-eq71
returns-in-82-eq82-eq83-eq73-eq71 c =
    usual.usual_rrsig c.args.word.now (omega (arith, c.in-len5.len_at_least, c.in-len5.len_below)) (c.in-82-eq82-eq83-eq73-eq71.is-0, (c.in-82-eq82-eq83-eq73-eq71.is-1, (c.in-82-eq82-eq83-eq73-eq71.is-2, (c.in-82-eq82-eq83-eq73-eq71.is-3, (c.in-82-eq82-eq83-eq73-eq71.is-4, tt)))))

pub returns-in-78-eq83-eq69-eq67-eq51 : goal.returns-in-78-eq83-eq69-eq67-eq51
returns-in-78-eq83-eq69-eq67-eq51 c =
    usual.usual_nsec3 c.args.word.now (omega (arith, c.in-len5.len_at_least, c.in-len5.len_below)) (c.in-78-eq83-eq69-eq67-eq51.is-0, (c.in-78-eq83-eq69-eq67-eq51.is-1, (c.in-78-eq83-eq69-eq67-eq51.is-2, (c.in-78-eq83-eq69-eq67-eq51.is-3, (c.in-78-eq83-eq69-eq67-eq51.is-4, tt)))))

pub returns-in-67-eq78-eq65-eq77-eq69 : goal.returns-in-67-eq78-eq65-eq77-eq69
returns-in-67-eq78-eq65-eq77-eq69 c =
    usual.usual_cname c.args.word.now (omega (arith, c.in-len5.len_at_least, c.in-len5.len_below)) (c.in-67-eq78-eq65-eq77-eq69.is-0, (c.in-67-eq78-eq65-eq77-eq69.is-1, (c.in-67-eq78-eq65-eq77-eq69.is-2, (c.in-67-eq78-eq65-eq77-eq69.is-3, (c.in-67-eq78-eq65-eq77-eq69.is-4, tt)))))
