use Rattle.std.proofs.Common.{◌≢◌, length}
use Rattle.std.proofs.lemmas.Result.{err_from_is_err_and}
use Rattle.dnw_c_names.proofs.Named.{keyed_all, keyed_fails, keyed_more}
use Rattle.dnw_c_names.proofs.sorting.keyed.Goals as goal

pub list-preserved : goal.list-preserved
list-preserved c =
    let (labels, takes, adds) = c.in_ok-push_next.ensures.ok in
    keyed_more c.list.invariant takes adds c.in_ok-push_next.ensures.within c.push_next.ensures.bytes

pub returns-in_err-push_next-clause-err : goal.returns-in_err-push_next-clause-err
returns-in_err-push_next-clause-err c =
    let p = err_from_is_err_and c.from_residual.result c.from_residual.ensures.1 in
    let left : c.list.decoder.index ≢ length c.list.decoder.bytes = λ same.
    let empty = c.is_empty.ensures.1 same in
    let full = c.list-test.true in
    cc (empty, full) in
    rw (p.1, p.2) (keyed_fails c.list.invariant left c.in_err-push_next.ensures.err)

pub returns-clause-ok : goal.returns-clause-ok
returns-clause-ok c =
    let h = c.list.invariant in
    (h.done, keyed_all h (c.is_empty.ensures.0 c.list-test.false), h.keyed)
