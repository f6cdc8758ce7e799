use Rattle.dnw_write_script.proofs.Running.{items_of_scripts_stay_bounded, parts_of_scripts_stay_bounded, runs_stay_bounded}
use Rattle.dnw_write_script.proofs.script.laws.runs_stay_bounded.Goals as goal

pub returns : goal.returns
returns c = record { runs = runs_stay_bounded; parts = parts_of_scripts_stay_bounded; items = items_of_scripts_stay_bounded }
