use Rattle.std.proofs.Common.{List, ℕ, inl, subst}
use Rattle.dnw_zone_record.specs.RecordLines.{HasClassNext}
use Rattle.dnw_zone_record.proofs.record_line.ttl_and_class.Goals as goal

pub returns-in-Some-clause-is : goal.returns-in-Some-clause-is
returns-in-Some-clause-is c =
    inl (
      c.in-Some.ensures.is.0,
      subst (λ (left : List ℕ). HasClassNext left c.class_or_in-class.result.0 c.class_or_in-class.result.1.now) c.in-Some.ensures.is.1 c.class_or_in-class.ensures.next,
    )
