use Rattle.std.proofs.Common.{◌≡◌, ◌≤◌, ◌++◌, ℕ, List, length}
use Rattle.std.specs.Prelude.{string_bytes}
use Rattle.dnw_zone_values.specs.ParamTexts.{params_text, params_within}
use Rattle.dnw_zone_values.specs.Inside.Steps.{IsSpaced, after_these}
use Rattle.dnw_zone_values.proofs.printing.push_each.Given as goal

-- what is left, after the text so far, gives what all gives
abbrev pub invariant-loop-key : goal.invariant-loop-key
invariant-loop-key l =
    (n : ℕ) × (found : List ℕ) × (length l.left ≤ n) × (params_text l.octets ≡ after_these found (params_within n l.left))
    × (string_bytes l.out ≡ string_bytes l.fn.out ++ found) × IsSpaced found × (length l.left ≤ length l.octets)

abbrev pub decreases-loop-key : goal.decreases-loop-key
decreases-loop-key l = length l.left
