use Rattle.std.proofs.Common.{◌≡◌, drop}
use Rattle.dnw_c_zone.specs.ZoneEntries.{has_zero}
use Rattle.dnw_c_zone.proofs.zone_entry.has_zero.Given as goal

-- what is left has the zero octet that all has
abbrev pub invariant-loop-octet : goal.invariant-loop-octet
invariant-loop-octet l = has_zero (drop l.octet-index l.name) ≡ has_zero l.name
