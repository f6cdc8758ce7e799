use Rattle.std.proofs.Common.{◌≢◌, length, arith}
use Rattle.std.proofs.lemmas.Grind.{common_steps}
use Rattle.std.proofs.lemmas.Result.{err_from_is_err_and}
use Rattle.dnw_c_names.proofs.Lists.{written_more, written_no_more, written_all}
use Rattle.dnw_c_names.proofs.names.write_names.Goals as goal

pub overflow_add-count : goal.overflow_add-count
overflow_add-count c =
    let few = c.list.invariant.few in
    let onward = c.in_ok-write_next.ensures.onward in
    let within = c.in_ok-write_next.ensures.within in
    grind (arith, common_steps)

pub list-smaller : goal.list-smaller
list-smaller c =
    let onward = c.in_ok-write_next.ensures.onward in
    let within = c.in_ok-write_next.ensures.within in
    let bytes = c.write_next.ensures.bytes in
    let same = c.list.invariant.same_list in
    grind (arith, common_steps)

pub list-preserved : goal.list-preserved
list-preserved c =
    let (labels, takes, emits) = c.in_ok-write_next.ensures.ok in
    written_more c.list.invariant takes emits c.in_ok-write_next.ensures.onward c.in_ok-write_next.ensures.within
    c.write_next.ensures.bytes c.write_next.ensures.lender

pub returns-clause-ok : goal.returns-clause-ok
returns-clause-ok c = written_all c.list.invariant (c.is_empty.ensures.0 c.list-test.false)

pub returns-in_err-write_next-clause-err : goal.returns-in_err-write_next-clause-err
returns-in_err-write_next-clause-err c =
    let p = err_from_is_err_and c.from_residual.result c.from_residual.ensures.1 in
    let left : c.list.decoder.index ≢ length c.list.decoder.bytes = λ same.
    let empty = c.is_empty.ensures.1 same in
    let full = c.list-test.true in
    cc (empty, full) in
    rw (p.1, p.2) (written_no_more c.list.invariant left c.in_err-write_next.ensures.err)
