use Rattle.dnw_c_zone.specs.Inside.StateResults.{with_entry, with_state}
use Rattle.dnw_c_zone.proofs.StatesKept.{stored_both}
use Rattle.dnw_c_zone.proofs.zone_file.dnw_zone_next.Goals as goal

pub returns : goal.returns
returns c = (
  with_state (with_entry c.next.result c.next.new.entry) c.next.new.zone,
  c.next.ensures.takes,
  stored_both c.next.result c.args.entry.now c.next.new.entry c.args.zone.now c.next.new.zone c.report.result c.report.ensures c.next.ensures.same,
)
