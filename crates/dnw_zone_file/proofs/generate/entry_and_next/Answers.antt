use Rattle.std.proofs.Common.{List, ℕ, ◌∙◌, length, refl, ap, inl, inr}
use Rattle.dnw_zone_file.specs.Heads.{wrong_at}
use Rattle.dnw_zone_file.specs.declared.error.ZoneRule.TheVariants.{TooMany}
use Rattle.dnw_zone_file.proofs.generate.entry_and_next.Goals as goal

pub returns-in-Err-clause-err : goal.returns-in-Err-clause-err
returns-in-Err-clause-err c =
    (inl (c.in-Ok.own.now, c.in-Ok.field-0-1, c.in-Ok.ensures.line, inl (rw c.next_word.ensures.rest at c.in-Err.ensures.err)), refl)

pub returns-then-not-is_within-clause-err : goal.returns-then-not-is_within-clause-err
returns-then-not-is_within-clause-err c = (
  inl (
    c.in-Ok.own.now,
    c.in-Ok.field-0-1,
    c.in-Ok.ensures.line,
    inr (
      c.in-Ok-generate_of.generate,
      rw c.next_word.ensures.rest at c.in-Ok-generate_of.ensures.ok,
      rw c.if-not-is_within.true at c.is_within.ensures,
      c.wrong_at.ensures ∙ ap (λ (left : List ℕ). wrong_at (length c.in-Ok.own.now) left TooMany) c.next_word.ensures.rest,
    ),
  ),
  refl,
)

pub returns-in-Err-entry_for-clause-err : goal.returns-in-Err-entry_for-clause-err
returns-in-Err-entry_for-clause-err c = (
  inr (inl (
    c.in-Ok-generate_of.generate,
    (
      c.in-Ok.own.now,
      c.in-Ok.field-0-1,
      c.in-Ok.ensures.line,
      rw c.next_word.ensures.rest at c.in-Ok-generate_of.ensures.ok,
      rw c.if-not-is_within.false at c.is_within.ensures,
    ),
    rw c.number_or_first-number.ensures at c.in-Err-entry_for.ensures.err.0,
  )),
  c.in-Err-entry_for.ensures.err.1,
)

pub returns-in-Ok-entry_for-clause-ok : goal.returns-in-Ok-entry_for-clause-ok
returns-in-Ok-entry_for-clause-ok c = (
  c.in-Ok-generate_of.generate,
  c.number_or_first-number.result,
  (
    c.in-Ok.own.now,
    c.in-Ok.field-0-1,
    c.in-Ok.ensures.line,
    rw c.next_word.ensures.rest at c.in-Ok-generate_of.ensures.ok,
    rw c.if-not-is_within.false at c.is_within.ensures,
  ),
  c.number_or_first-number.ensures,
  c.in-Ok-entry_for.ensures.ok,
  c.next_number.ensures,
)
