use Rattle.std.proofs.Common.{◌≡◌, ◌*◌, ◌/◌, ◌^◌}
use Rattle.dnw_zone_values.proofs.location.centimetres.Given as goal

abbrev pub invariant-zeros : goal.invariant-zeros
invariant-zeros l = l.number ≡ l.octet / 16 * 10 ^ l.counter
