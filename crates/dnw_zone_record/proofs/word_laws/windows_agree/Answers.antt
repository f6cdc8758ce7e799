use Rattle.dnw_zone_record.proofs.Windows.{windows}
use Rattle.dnw_zone_record.proofs.word_laws.windows_agree.Goals as goal

pub returns : goal.returns
returns c = windows
