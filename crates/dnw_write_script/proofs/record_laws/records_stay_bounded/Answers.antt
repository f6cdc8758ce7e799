use Rattle.dnw_write_script.proofs.Bounded.{counted_stay_bounded, data_stay_bounded, part_stays_bounded, parts_stay_bounded, records_stay_bounded}
use Rattle.dnw_write_script.proofs.record_laws.records_stay_bounded.Goals as goal

pub returns : goal.returns
returns c = record {
  part = part_stays_bounded;
  parts = parts_stay_bounded;
  counted = counted_stay_bounded;
  «data» = data_stay_bounded;
  records = records_stay_bounded;
}
