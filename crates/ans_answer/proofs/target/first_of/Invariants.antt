use Rattle.std.proofs.Common.{◌≡◌, ◌<◌, ◌≤◌, ℕ, false, get_or}
use Rattle.dns_names_wire.specs.Words.{RecordValue}
use Rattle.ans_answer.specs.Outcomes.{is_wanted}
use Rattle.ans_answer.proofs.target.first_of.Given as goal

abbrev pub invariant-records : goal.invariant-records
invariant-records l = (j : ℕ) (d : RecordValue) → l.fn.node.start ≤ j → j < l.number → is_wanted l.code (get_or l.zone.records j d) ≡ false
