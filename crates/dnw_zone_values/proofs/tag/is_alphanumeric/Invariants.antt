use Rattle.std.proofs.Common.{◌≡◌, ◌<◌, ℕ, true}
use Rattle.std.specs.Prelude.{slice_index_or}
use Rattle.std.specs.Char.{is_ascii_alphanumeric}
use Rattle.dnw_zone_values.proofs.tag.is_alphanumeric.Given as goal

abbrev pub invariant-loop-c : goal.invariant-loop-c
invariant-loop-c l = (k d : ℕ) → k < l.c-index → is_ascii_alphanumeric (slice_index_or l.octets k d) ≡ true
