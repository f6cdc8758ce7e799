-- The record that is there is taken.
use Rattle.std.proofs.Common.{arith, subst}
use Rattle.dns_names_wire.specs.Words.{RecordAt}
use Rattle.ans_store.proofs.records.take_record.Goals as goal

pub returns-clause-ok : goal.returns-clause-ok
returns-clause-ok c =
    let (end, at) = c.in-Ok.ensures.ok in
    record {
      found = c.in-Ok.record;
      stands = subst (λ e. RecordAt c.args.octets.now c.args.start c.in-Ok.record e) (omega (arith, at.ends, c.rdata_offset.ensures, c.rdata.ensures.len)) at;
      whole = c.has_whole_owner.ensures.whole.0 c.if-not-has_whole_owner.false;
      labels = c.has_whole_owner.ensures.labels;
    }
