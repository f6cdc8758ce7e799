use Rattle.dnw_write_script.proofs.Running.{undoes}
use Rattle.dnw_write_script.proofs.script.laws.refused_records_undo.Goals as goal

pub returns : goal.returns
returns c old candidates names actions replies v w r error len runs step = undoes old candidates names actions replies v runs w r error step.0
