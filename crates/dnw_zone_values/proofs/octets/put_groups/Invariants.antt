use Rattle.std.proofs.Common.{◌≡◌, ◌+◌, ◌*◌, length, take}
use Rattle.dnw_zone_values.specs.Inside.Digits.{BeginsBase64}
use Rattle.dnw_zone_values.proofs.octets.put_groups.Given as goal

abbrev pub invariant-loop-left : goal.invariant-loop-left
invariant-loop-left l = record { begins : BeginsBase64 l.text (take l.len l.room) l.left; size : 4 * l.len + 3 * length l.left ≡ 3 * length l.text }

abbrev pub decreases-loop-left : goal.decreases-loop-left
decreases-loop-left l = length l.left
