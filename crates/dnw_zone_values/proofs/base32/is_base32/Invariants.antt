use Rattle.std.proofs.Common.{◌≡◌, ◌<◌, ℕ, true}
use Rattle.std.specs.Prelude.{slice_index_or}
use Rattle.dnw_zone_values.specs.Base32.{is_base32}
use Rattle.dnw_zone_values.proofs.base32.is_base32.Given as goal

abbrev pub invariant-loop-c : goal.invariant-loop-c
invariant-loop-c l = (k d : ℕ) → k < l.c-index → is_base32 (slice_index_or l.text k d) ≡ true
