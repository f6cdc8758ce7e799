use Rattle.std.proofs.Common.{◌≡◌, ◌+◌, ◌*◌, length, take}
use Rattle.hex.specs.Hex.{decode_pairs}
use Rattle.hex.proofs.Pairs.{prepend}
use Rattle.dnw_zone_values.proofs.octets.put_digits.Given as goal

-- what is left, after the octets so far, gives what all gives
abbrev pub invariant-loop-left : goal.invariant-loop-left
invariant-loop-left l = record {
  gives : decode_pairs 0 l.text ≡ prepend (take l.len l.room) (decode_pairs (2 * l.len) l.left);
  size : 2 * l.len + length l.left ≡ length l.text;
}

abbrev pub decreases-loop-left : goal.decreases-loop-left
decreases-loop-left l = length l.left
