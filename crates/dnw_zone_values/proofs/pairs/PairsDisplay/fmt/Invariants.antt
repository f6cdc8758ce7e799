use Rattle.std.proofs.Common.{◌≡◌, ◌∷◌, ◌++◌, List, ℕ, length}
use Rattle.std.specs.Fmt.{HasWritten, IsPlainFormatter}
use Rattle.dnw_zone_values.specs.Pairs.{pairs_text}
use Rattle.dnw_zone_values.proofs.pairs.PairsDisplay.fmt.Given as goal

-- what is written, and the text of what is left, are all
abbrev pub invariant-loop-next : goal.invariant-loop-next
invariant-loop-next g l =
    IsPlainFormatter l.fn.f → (done : List ℕ) × HasWritten g.W.Write.write_str_gives l.fn.f done l.f
    × (done ++ pairs_text (l.octet ∷ l.left) ≡ pairs_text l.self.0.now)

abbrev pub decreases-loop-next : goal.decreases-loop-next
decreases-loop-next g l = length l.left
