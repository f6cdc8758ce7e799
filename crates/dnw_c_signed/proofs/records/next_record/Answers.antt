use Rattle.std.proofs.Common.{inl, refl, arith}
use Rattle.dnw_c_base.proofs.Exits.{exits}
use Rattle.dnw_c_signed.specs.RecordCalls.{IsNoNextRecord}
use Rattle.dnw_c_signed.proofs.Following.{limited, too_many}
use Rattle.dnw_c_signed.proofs.records.next_record.Goals as goal

pub owner_pointers-requires-clause-there : goal.owner_pointers-requires-clause-there
owner_pointers-requires-clause-there c =
    let (e, at, is) = c.in_ok-item.ensures.ok in
    rw (c.message-message.ensures, c.index-start.ensures.index) (e, at)

pub returns-in_err-followed-clause-err : goal.returns-in_err-followed-clause-err
returns-in_err-followed-clause-err c =
    let fails = rw (c.message-message.ensures, c.index-start.ensures.index) at c.in_err-followed.ensures.err in
    exits (IsNoNextRecord c.args.reader.now c.args.left.now) c.from_residual-in_err-followed.result _ c.from_residual-in_err-followed.ensures.1 (inl (_, fails, refl))

pub returns-then-followed-left-clause-err : goal.returns-then-followed-left-clause-err
returns-then-followed-left-clause-err c =
    let (labels, end, name) = c.in_ok-followed.ensures.ok in
    let here = rw (c.message-message.ensures, c.index-start.ensures.index) at name in
    let less = c.if-followed-left.true in
    too_many labels end c.in_ok-followed.followed c.args.left.now here c.in_ok-item.ensures.ok (omega (arith, less))

pub returns-clause-ok : goal.returns-clause-ok
returns-clause-ok c =
    let (labels, end, name) = c.in_ok-followed.ensures.ok in
    let here = rw (c.message-message.ensures, c.index-start.ensures.index) at name in
    let within = c.if-followed-left.false in
    limited labels end c.in_ok-followed.followed _ c.args.left.now here c.in_ok-item.ensures.ok (omega (arith, within))
