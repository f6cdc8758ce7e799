use Rattle.dnw_zone_record.proofs.LinesBack.{lines}
use Rattle.dnw_zone_record.proofs.laws.lines_come_back.Goals as goal

pub returns : goal.returns
returns c = lines
