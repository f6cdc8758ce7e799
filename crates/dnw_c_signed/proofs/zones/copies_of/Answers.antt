use Rattle.std.proofs.Common.{◌≡◌, length, ap, arith}
use Rattle.std.proofs.lemmas.Result.{err_from_is_err_and}
use Rattle.dnw_c_signed.proofs.Following.{takes_on}
use Rattle.dnw_c_signed.proofs.Copied.{all_copied, copied_more, copied_up_to, none_copied}
use Rattle.dnw_c_signed.proofs.zones.copies_of.Goals as goal

pub records-init : goal.records-init
records-init c = none_copied c.args.records.now c.new-reader.result c.new-copies.result.items c.new-reader.ensures c.new-copies.ensures.items

pub records-smaller : goal.records-smaller
records-smaller c =
    let (r, copy, middle, takes, few, like, grown) = c.in_ok-copy_next.ensures.ok in
    let (onward, within) = takes_on c.records.left middle takes in
    omega (arith, onward, within, ap length c.records.invariant.same)

pub records-preserved : goal.records-preserved
records-preserved c =
    let (r, copy, middle, takes, few, like, grown) = c.in_ok-copy_next.ensures.ok in
    copied_more r copy c.copy_next.new.copies.items c.records.invariant takes few like grown

pub returns-in_err-copy_next-clause-err : goal.returns-in_err-copy_next-clause-err
returns-in_err-copy_next-clause-err c =
    let p = err_from_is_err_and c.from_residual.result c.from_residual.ensures.1 in
    let left : c.records.reader.index ≡ length c.records.reader.bytes → ⊥ = λ same.
    let empty = c.is_empty.ensures.1 same in
    let full = c.records-test.true in
    cc (empty, full) in
    rw (p.1, p.2) (copied_up_to c.in_err-copy_next.field-0.0 c.records.invariant left c.in_err-copy_next.ensures.err)

pub returns-clause-ok : goal.returns-clause-ok
returns-clause-ok c = all_copied c.records.invariant (c.is_empty.ensures.0 c.records-test.false)
