use Rattle.std.proofs.Common.{ℕ, get_or, refl, sym, ap, ◌∙◌, arith}
use Rattle.dnw_zone_checks.specs.Checks.{first_of_set}
use Rattle.dnw_zone_checks.proofs.Adding.{begins, ends, goes_on}
use Rattle.dnw_zone_checks.proofs.checks.findings.Goals as goal

pub records-init : goal.records-init
records-init c = record {
  number = refl;
  firsts = c.in_ok-firsts.ensures c.args.records.now;
  rest = begins c.args.apex.now.labels c.args.records.now c.check_apex.new.found.items
      (c.in_ok-check_apex.ensures ∙ rw (c.new-found.ensures.items, c.in_ok-zone.ensures.apex, c.in_ok-zone.ensures.records) refl);
}

pub records-preserved : goal.records-preserved
records-preserved c =
    let (own, is, added) = c.in_ok-check_record.ensures in
    let these = rw c.in_ok-zone.ensures.records at (rw c.in_ok-zone.ensures.apex at is) in
    record {
      number = omega arith;
      firsts = c.take-first.ensures.firsts;
      rest = goes_on c.args.apex.now.labels c.args.records.now c.records.number c.records.record-index c.record-item.result c.records.found.items own
          c.check_record.new.found.items c.records-test.true c.record-item.is c.records.invariant.rest these added;
    }

pub returns : goal.returns
returns c = ends c.args.apex.now.labels c.args.records.now c.records.number c.records.record-index c.records.found.items c.records-test.false c.records.invariant.rest

pub check_record-requires : goal.check_record-requires
check_record-requires c =
    let item = c.record-item.result in
    let at = c.record-item.is ∙ ap (λ (n : ℕ). get_or c.args.records.now n item) (sym c.records.invariant.number) in
    record {
      checked = c.in_ok-zone.ensures.checked;
      first = rw c.in_ok-zone.ensures.records (ap (first_of_set c.args.records.now) at ∙ c.take-first.ensures.first item);
      within = rw c.in_ok-zone.ensures.records c.take-first.ensures.within;
    }
