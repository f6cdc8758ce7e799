use Rattle.dnw_signed.proofs.RecordKeys.{keys_are_of_same, keys_order_records}
use Rattle.dnw_signed.proofs.laws.keys_order_records.Goals as goal

pub returns : goal.returns
returns c = record { order = keys_order_records; same = keys_are_of_same }
