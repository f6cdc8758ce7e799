use Rattle.std.proofs.Common.{◌≡◌, length}
use Rattle.std.specs.Str.Parse.{AllDigits, digits_value, digits_value_after}
use Rattle.dnw_zone_values.proofs.number.digits_number.Given as goal

-- what is left goes on from the number so far
abbrev pub invariant-loop-c : goal.invariant-loop-c
invariant-loop-c l = record {
  all : AllDigits 10 l.left → AllDigits 10 l.text;
  left : AllDigits 10 l.text → AllDigits 10 l.left;
  value : digits_value_after 10 l.number l.left ≡ digits_value 10 l.text;
}

abbrev pub decreases-loop-c : goal.decreases-loop-c
decreases-loop-c l = length l.left
