use Rattle.std.proofs.Common.{List, ℕ, sym, subst, inl}
use Rattle.dnw_zone_file.specs.Heads.{IsTimeFault, IsZoneTtl}
use Rattle.dnw_zone_file.proofs.entry.only_ttl.Goals as goal

pub returns-in_default-clause-err : goal.returns-in_default-clause-err
returns-in_default-clause-err c = inl (
  c.time_fault.result,
  (λ ttl is. c.in_default.ensures ttl (subst (λ (x : List ℕ). IsZoneTtl x ttl) (sym c.next_word.ensures.word) is)),
  subst (λ (x : List ℕ). IsTimeFault x c.time_fault.result) c.next_word.ensures.word c.time_fault.ensures,
  c.wrong_at.ensures,
)
