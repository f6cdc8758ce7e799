use Rattle.std.proofs.Common.{List, ℕ, subst}
use Rattle.dnw_zone_file.specs.Heads.{IsTypeFault}
use Rattle.dnw_zone_file.proofs.head.head_of.Goals as goal

pub returns-in-Err-clause-err : goal.returns-in-Err-clause-err
returns-in-Err-clause-err c = (
  c.ttl_and_class-ttl.result.0,
  c.ttl_and_class-ttl.result.1,
  c.ttl_and_class-ttl.result.2.now,
  c.in-Err.rule,
  c.ttl_and_class-ttl.ensures.is,
  subst (λ (x : List ℕ). IsTypeFault x c.in-Err.rule) c.next_word.ensures.word c.in-Err.ensures.err,
  c.wrong_at.ensures,
)
