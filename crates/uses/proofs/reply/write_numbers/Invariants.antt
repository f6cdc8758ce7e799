use Rattle.std.proofs.Common.{◌≡◌}
use Rattle.dns_names_wire.specs.Words.{value, lender}
use Rattle.uses.specs.Bounded.{HasHeader, Keeps}
use Rattle.uses.proofs.reply.write_numbers.Given as goal

abbrev pub invariant-loop-number : goal.invariant-loop-number
invariant-loop-number l = HasHeader (value l.encoder) × Keeps (value l.fn.encoder) (value l.encoder) × (lender l.encoder ≡ lender l.fn.encoder)
