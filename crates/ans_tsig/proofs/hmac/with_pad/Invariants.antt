use Rattle.std.proofs.Common.{◌≡◌, take}
use Rattle.ans_tsig.specs.Hmac.{with_pad}
use Rattle.ans_tsig.proofs.hmac.with_pad.Given as goal

abbrev pub invariant-octets : goal.invariant-octets
invariant-octets l = l.block.items ≡ with_pad l.octet (take l.x-index l.key)
