use Rattle.std.proofs.Common.{refl}
use Rattle.std.proofs.lemmas.Result.{err_from_is_err_and}
use Rattle.dnw_data.proofs.Sets.{began, began-or, listed_some, codes_some}
use Rattle.dnw_data.proofs.record_type_set.RecordTypeSet.new.Goals as goal

pub returns-in_err-push-clause-err : goal.returns-in_err-push-clause-err
returns-in_err-push-clause-err g c =
    let p = err_from_is_err_and c.from_residual.result c.from_residual.ensures.1 in
    let first = c.into_iter-record_type-iterator in
    rw (p.1, p.2) (refl, first.result, first.ensures.into_iter_gives, began-or g.I.IntoIter.Iterator.next_gives c.loop-record_type.yielded first.result c.loop-record_type.record_type-iterator c.next.new.self c.in-Some.record_type c.loop-record_type.yielded_by c.in-Some.ensures.steps)

pub returns-in_err-codes-clause-err : goal.returns-in_err-codes-clause-err
returns-in_err-codes-clause-err g c =
    let p = err_from_is_err_and c.from_residual-in_err-codes.result c.from_residual-in_err-codes.ensures.1 in
    let first = c.into_iter-record_type-iterator in
    let types = rw c.as_slice.ensures.value at c.in_err-codes.ensures.err in
    let listed = rw c.loop-record_type.invariant at (listed_some _ c.settle.new.types.items c.settle.ensures types) in
    rw (p.1, p.2) (refl, first.result, first.ensures.into_iter_gives, began g.I.IntoIter.Iterator.next_gives c.loop-record_type.yielded first.result c.loop-record_type.record_type-iterator c.loop-record_type.yielded_by listed)

pub returns-in_err-encoding-clause-err : goal.returns-in_err-encoding-clause-err
returns-in_err-encoding-clause-err g c =
    let p = err_from_is_err_and c.from_residual-in_err-encoding.result c.from_residual-in_err-encoding.ensures.1 in
    let first = c.into_iter-record_type-iterator in
    let codes = rw (c.as_slice-2.ensures.value, c.in_ok-codes.ensures.codes, c.as_slice.ensures.value) at c.in_err-encoding.ensures.err in
    let listed = rw c.loop-record_type.invariant at (listed_some _ c.settle.new.types.items c.settle.ensures (codes_some _ codes)) in
    rw (p.1, p.2) (refl, first.result, first.ensures.into_iter_gives, began g.I.IntoIter.Iterator.next_gives c.loop-record_type.yielded first.result c.loop-record_type.record_type-iterator c.loop-record_type.yielded_by listed)
