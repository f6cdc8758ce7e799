use Rattle.std.proofs.Common.{◌-◌, length}
use Rattle.dnw_c_zone.proofs.ZoneRuns.{Reading}
use Rattle.dnw_c_zone.proofs.zone_rows.read_run.Given as goal

abbrev pub invariant-entries : goal.invariant-entries
invariant-entries l = Reading l.text l.more l.fn.context l.fn.rows l.rows l.fn.octets l.octets l.read l.context

abbrev pub decreases-entries : goal.decreases-entries
decreases-entries l = length l.text - l.read.used
