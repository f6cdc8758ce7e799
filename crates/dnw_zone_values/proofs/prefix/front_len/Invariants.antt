use Rattle.std.proofs.Common.{◌≡◌, ◌≤◌, ◌+◌, ◌-◌, ◌==◌, ℕ, length}
use Rattle.std.specs.List.{position_or_len}
use Rattle.dnw_zone_values.proofs.prefix.front_len.Given as goal

abbrev pub invariant-loop-first : goal.invariant-loop-first
invariant-loop-first l =
    (length l.left ≤ length l.text)
    × ((length l.text - length l.left) + position_or_len (λ (x : ℕ). x == l.c) l.left ≡ position_or_len (λ (x : ℕ). x == l.c) l.text)

abbrev pub decreases-loop-first : goal.decreases-loop-first
decreases-loop-first l = length l.left
