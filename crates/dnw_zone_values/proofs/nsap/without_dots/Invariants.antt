use Rattle.std.proofs.Common.{◌≡◌, take}
use Rattle.std.specs.List.{filter}
use Rattle.dnw_zone_values.specs.Nsap.{is_no_dot}
use Rattle.dnw_zone_values.proofs.nsap.without_dots.Given as goal

abbrev pub invariant-loop-c : goal.invariant-loop-c
invariant-loop-c l = l.joined.items ≡ filter is_no_dot (take l.c-index l.text)
