use Rattle.std.proofs.Common.{◌-◌, length}
use Rattle.dnw_name_text.specs.Inside.TextReader.{IsRun}
use Rattle.dnw_name_text.proofs.ascii.run_len.Given as goal

abbrev pub invariant-fours : goal.invariant-fours
invariant-fours l = IsRun l.text l.len

abbrev pub decreases-fours : goal.decreases-fours
decreases-fours l = length l.text - l.len
