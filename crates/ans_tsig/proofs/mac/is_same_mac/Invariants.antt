use Rattle.std.proofs.Common.{◌≡◌, ◌<◌, ℕ, get_or}
use Rattle.ans_tsig.specs.Inside.Comparing.{Compares}
use Rattle.ans_tsig.proofs.mac.is_same_mac.Given as goal

abbrev pub invariant-octets : goal.invariant-octets
invariant-octets l = Compares l.left l.right l.i l.difference
