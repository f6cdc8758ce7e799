use Rattle.std.proofs.Common.{◌≡◌, ℕ, ◌+◌, ◌-◌, ◌<◌, get_or, length}
use Rattle.dnw_message_writer.proofs.standing.is_at.Given as goal

abbrev pub invariant-octets : goal.invariant-octets
invariant-octets l = (k : ℕ) → k < l.index → get_or l.message (l.at + k) 0 ≡ get_or l.octets k 0

abbrev pub decreases-octets : goal.decreases-octets
decreases-octets l = length l.octets - l.index
