use Rattle.std.proofs.Common.{◌-◌, length}
use Rattle.dnw_name_text.specs.Inside.TextReader.{IsRun}
use Rattle.dnw_name_text.proofs.ascii.simple_len.Given as goal

abbrev pub invariant-loop-len : goal.invariant-loop-len
invariant-loop-len l = IsRun l.text l.len

abbrev pub decreases-loop-len : goal.decreases-loop-len
decreases-loop-len l = length l.text - l.len
