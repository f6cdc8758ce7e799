-- The items of a list are scanned one after another.
use Rattle.std.proofs.Common.{ap, arith, inl, length}
use Rattle.std.proofs.lemmas.Result.{err_from_is_err_and}
use Rattle.dnw_message_writer.proofs.ListItems.{scan_onward, scanned_none, scanned_on}
use Rattle.dnw_message_writer.proofs.list.items.scan_list.Goals as goal

pub list-init : goal.list-init
list-init c =
    scanned_none c.args.items.now c.args.flags c.new-decoder.result c.new-ends.result c.new-purpose.result c.new-decoder.ensures c.new-ends.ensures
    c.new-purpose.ensures

pub list-smaller : goal.list-smaller
list-smaller c =
    let onward = scan_onward c.octet_at-octet.result c.list.decoder c.list.ends c.list.purpose c.scan_item.new.decoder c.scan_item.new.ends
    c.scan_item.new.purpose c.in_ok-scan_item.ensures.ok in
    omega (arith, onward.further, onward.inside, ap length onward.same, ap length c.list.invariant.same)

pub list-preserved : goal.list-preserved
list-preserved c =
    scanned_on c.list.invariant c.octet_at-octet.result c.place_of-place.result c.scan_item.new.decoder c.scan_item.new.ends c.scan_item.new.purpose
    c.place_of-place.ensures c.if-place-last.false c.in_ok-scan_item.ensures.ok

pub returns-in_err-scan_item-clause-err : goal.returns-in_err-scan_item-clause-err
returns-in_err-scan_item-clause-err c =
    let e = err_from_is_err_and c.from_residual.result c.from_residual.ensures.1 in
    rw (e.1, e.2)
    (c.list.decoder, c.list.last, c.list.ends, c.list.purpose, c.octet_at-octet.result, c.list.invariant.scans, inl c.in_err-scan_item.ensures.err)
