use Rattle.dnw_data.proofs.Few.{bitmaps_list_few}
use Rattle.dnw_data.proofs.Listed.{windows_list}
use Rattle.dnw_data.proofs.Windows.{bitmaps_are}
use Rattle.dnw_data.proofs.record_type_set.laws.bitmaps_list_bits.Goals as goal

pub returns-clause-windows : goal.returns-clause-windows
returns-clause-windows c = bitmaps_are

pub returns-clause-bits : goal.returns-clause-bits
returns-clause-bits c = windows_list

pub returns-clause-few : goal.returns-clause-few
returns-clause-few c = bitmaps_list_few
