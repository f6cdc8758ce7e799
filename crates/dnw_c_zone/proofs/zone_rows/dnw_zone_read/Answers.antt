use Rattle.dnw_c_zone.specs.Inside.RowSteps.{with_read}
use Rattle.dnw_c_zone.proofs.ZoneRuns.{stored_read}
use Rattle.dnw_c_zone.proofs.zone_rows.dnw_zone_read.Goals as goal

pub returns : goal.returns
returns c = (
  with_read c.read_zone.result c.read_zone.new.zone,
  c.read_zone.ensures.reads,
  stored_read c.read_zone.result c.args.read.now c.report.new.place c.args.zone.now c.read_zone.new.zone c.report.result c.report.ensures c.read_zone.ensures.same,
)
