use Rattle.std.proofs.Common.{◌≡◌, ◌<◌, ℕ, true}
use Rattle.std.specs.Prelude.{slice_index_or}
use Rattle.std.specs.Char.{is_ascii_digit}
use Rattle.dnw_zone_values.proofs.time.is_digits.Given as goal

abbrev pub invariant-loop-c : goal.invariant-loop-c
invariant-loop-c l = (k d : ℕ) → k < l.c-index → is_ascii_digit (slice_index_or l.text k d) ≡ true
