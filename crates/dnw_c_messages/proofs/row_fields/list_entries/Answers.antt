use Rattle.std.proofs.Common.{arith}
use Rattle.dnw_c_base.proofs.Exits.{exits}
use Rattle.dnw_c_messages.specs.Inside.Sheets.{sheet}
use Rattle.dnw_c_messages.specs.Listings.{no_entries}
use Rattle.dnw_c_messages.proofs.FieldSteps.{entry_goes, entry_halts, entry_within}
use Rattle.dnw_c_messages.proofs.Steps.{goes_both, goes_halts, goes_none, goes_quietly}
use Rattle.dnw_c_messages.proofs.row_fields.list_entries.Goals as goal

pub entries-init : goal.entries-init
entries-init c = record {
  can = tt;
  finite = tt;
  within = c.requires.within;
  fits = c.requires.fits;
  goes = λ names few b p. goes_none b _ p (sheet c.args.rows.now names c.args.at.now) (record { rows = c.requires.fits; names = few });
}

pub overflow_sub-entry_end : goal.overflow_sub-entry_end
overflow_sub-entry_end c =
    let (can, finite, fewer) = c.in-Some.ensures.goes.on tt in
    rw c.as_bytes.ensures.octets (omega (arith, fewer, c.entries.invariant.within))

pub overflow_sub-offset : goal.overflow_sub-offset
overflow_sub-offset c =
    let (tag, own, after) = c.in-Some.ensures.steps in
    let within = entry_within c.entries.items c.next.new.self c.args.end c.in-Some.entry.octets.now c.entries.invariant.within own after in
    rw c.as_bytes.ensures.octets within

pub entries-preserved : goal.entries-preserved
entries-preserved c =
    let (tag, own, after) = c.in-Some.ensures.steps in
    let (can, finite, fewer) = c.in-Some.ensures.goes.on tt in
    let goes = entry_goes c.entries.items c.next.new.self c.in-Some.entry.tag c.args.end c.in-Some.entry.octets.now c.as_bytes.result.now c.data_row.result tag
    own after c.as_bytes.ensures.octets c.data_row.ensures fewer c.entries.rows c.list_row.new.rows c.entries.at c.list_row.new.at
    c.entries.invariant.fits c.in_ok-list_row.ensures.ok in
    record {
      can = can;
      finite = finite;
      within = omega (arith, fewer, c.entries.invariant.within);
      fits = c.in_ok-list_row.ensures.fits;
      goes = λ names few b p.
          let before = c.entries.invariant.goes names few b p in
          goes_both before (goes names before.onward.fits.names b p);
    }

pub returns-in_err-list_row-clause-err : goal.returns-in_err-list_row-clause-err
returns-in_err-list_row-clause-err c =
    let (tag, own, after) = c.in-Some.ensures.steps in
    let (can, finite, fewer) = c.in-Some.ensures.goes.on tt in
    exits _ c.from_residual.result _ c.from_residual.ensures.1
    (λ names few b p. goes_halts (c.entries.invariant.goes names few b p)
    (entry_halts c.entries.items c.next.new.self c.in-Some.entry.tag c.args.end c.in-Some.entry.octets.now c.as_bytes.result.now c.data_row.result tag own after
    c.as_bytes.ensures.octets c.data_row.ensures fewer c.entries.rows c.entries.at _ c.in_err-list_row.ensures.err names b p))

pub returns-clause-ok : goal.returns-clause-ok
returns-clause-ok c =
    λ names few b p.
    let before = c.entries.invariant.goes names few b p in
    goes_both before (goes_quietly before.onward.fits (no_entries c.in_default.ensures.steps.0))
