use Rattle.std.proofs.Common.{◌≡◌, ◌≤◌}
use Rattle.dns_names_wire.specs.Words.{value, lender}
use Rattle.uses.specs.Bounded.{HasHeader}
use Rattle.uses.proofs.reply.write_answers.Given as goal

abbrev pub invariant-loop-address : goal.invariant-loop-address
invariant-loop-address l = HasHeader (value l.encoder) × (l.count ≤ l.address-index) × (lender l.encoder ≡ lender l.fn.encoder)
