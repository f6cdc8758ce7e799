-- A set that has no room is missing, if it is required.
use Rattle.std.proofs.Common.{inl, inr, refl, sym, ◌∙◌, true≢false}
use Rattle.dnw_c_messages.proofs.sets.add_set.Goals as goal

pub returns-then-is_required : goal.returns-then-is_required
returns-then-is_required c =
    let h = rw c.in-Err-MessageTooLong.field-0-is at c.in-Err-MessageTooLong.ensures in (
      inr (c.in-Some.section, c.in-Some.ensures.some, h.0),
      h.1.0,
      record {
        cut = λ yes long. (c.add_set_to.new.message, h.1.1, c.cut_off.ensures);
        kept = λ e. elim e [ inl unset ↦ absurd (true≢false (sym c.if-is_required.true ∙ unset)) | inr other ↦ absurd (other refl) ];
      },
    )

pub returns-else-is_required : goal.returns-else-is_required
returns-else-is_required c =
    let h = rw c.in-Err-MessageTooLong.field-0-is at c.in-Err-MessageTooLong.ensures in (
      inr (c.in-Some.section, c.in-Some.ensures.some, h.0),
      h.1.0,
      record {
        cut = λ yes long. absurd (true≢false (sym yes ∙ c.if-is_required.false));
        kept = λ e. h.1.1;
      },
    )
