use Rattle.std.proofs.Common.{◌≡◌, ◌++◌, List, ℕ, length}
use Rattle.std.specs.Fmt.{HasWritten, IsPlainFormatter}
use Rattle.dnw_zone_values.specs.Base32.{base32_text}
use Rattle.dnw_zone_values.proofs.base32.Base32HexDisplay.fmt.Given as goal

-- what is written, and the text of what is left, are all
abbrev pub invariant-loop-left : goal.invariant-loop-left
invariant-loop-left g l =
    IsPlainFormatter l.fn.f → (done : List ℕ) × HasWritten g.W.Write.write_str_gives l.fn.f done l.f
    × (done ++ base32_text l.left ≡ base32_text l.self.0.now)

abbrev pub decreases-loop-left : goal.decreases-loop-left
decreases-loop-left g l = length l.left
