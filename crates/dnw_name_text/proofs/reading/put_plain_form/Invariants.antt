use Rattle.std.proofs.Common.{◌-◌, length}
use Rattle.dnw_name_text.proofs.PlainForms.{Placed}
use Rattle.dnw_name_text.proofs.PlainLeft.{LeavesPlain}
use Rattle.dnw_name_text.proofs.reading.put_plain_form.Given as goal

abbrev pub invariant-labels : goal.invariant-labels
invariant-labels l = record { placed : Placed l.text l.room l.start; left : LeavesPlain l.text l.start }

abbrev pub decreases-labels : goal.decreases-labels
decreases-labels l = length l.text - l.start
