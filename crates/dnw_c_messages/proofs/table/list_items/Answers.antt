use Rattle.std.proofs.Common.{◌≤◌, refl, ◌∙◌, arith}
use Rattle.dnw_c_base.proofs.Exits.{exits}
use Rattle.dnw_c_messages.specs.Inside.Sheets.{sheet}
use Rattle.dnw_c_messages.proofs.ItemSteps.{none_left}
use Rattle.dnw_c_messages.proofs.Steps.{goes_both, goes_halts, goes_none}
use Rattle.dnw_c_messages.proofs.table.list_items.Goals as goal

pub items-init : goal.items-init
items-init c = record {
  fits = c.requires;
  same = refl;
  goes = goes_none _ _ _ (sheet c.args.rows.now c.args.names.now c.args.at.now) c.requires;
}

pub returns-in_err-list_item-clause-err : goal.returns-in_err-list_item-clause-err
returns-in_err-list_item-clause-err c =
    let some : 1 ≤ c.items.left = omega (arith, c.items-test.true) in
    exits _ c.from_residual.result _ c.from_residual.ensures.1
    (goes_halts c.items.invariant.goes (rw c.items.invariant.same at (c.in_err-list_item.ensures.err c.items.left some)))

pub items-preserved : goal.items-preserved
items-preserved c =
    let some : 1 ≤ c.items.left = omega (arith, c.items-test.true) in
    let one = rw c.items.invariant.same at (c.in_ok-list_item.ensures.ok c.items.left some) in
    record {
      fits = one.onward.fits;
      same = c.in_ok-list_item.ensures.same ∙ c.items.invariant.same;
      goes = goes_both c.items.invariant.goes one;
    }

pub returns-clause-ok : goal.returns-clause-ok
returns-clause-ok c =
    goes_both c.items.invariant.goes
    (none_left c.args.section c.items.left c.args.reader.now.bytes c.items.reader.index (sheet c.items.rows c.items.names c.items.at) c.items-test.false
    c.items.invariant.fits)
