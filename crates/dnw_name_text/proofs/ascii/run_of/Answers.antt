use Rattle.dnw_name_text.proofs.LabelTexts.{Begins_run}
use Rattle.dnw_name_text.proofs.ascii.run_of.Goals as goal

pub returns : goal.returns
returns c = let run = rw c.as_bytes.ensures.value at c.run_len.ensures.run in Begins_run _ _ c.utf8.text run.few run.simple
