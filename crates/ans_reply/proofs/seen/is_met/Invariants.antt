use Rattle.std.proofs.Common.{◌≡◌, false, take}
use Rattle.std.specs.List.{list_any}
use Rattle.dns_names_wire.specs.Words.{NameValue, is_same}
use Rattle.ans_reply.proofs.seen.is_met.Given as goal

abbrev pub invariant-met : goal.invariant-met
invariant-met l = list_any (λ (met : NameValue). is_same met.labels l.name.labels) (take l.met-index l.names) ≡ false
