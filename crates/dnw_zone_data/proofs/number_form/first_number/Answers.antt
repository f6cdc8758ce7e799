use Rattle.std.proofs.Common.{sym, ◌∙◌, inl, inr}
use Rattle.dnw_zone_data.proofs.FewDigits.{number_end, short_read, stops_at, stops_without}
use Rattle.dnw_zone_data.proofs.number_form.first_number.Goals.{in-Some+then-number-gt-MOST_BEFORE_DIGIT, then-number-gt-MOST_BEFORE_DIGIT-via-then-number-gt-MOST_BEFORE_DIGIT, then-number-gt-MOST_BEFORE_DIGIT-via-else-number-gt-MOST_BEFORE_DIGIT+then-not-is_ascii_digit, in_default, then-left-text-via-then-left-text, then-left-text-via-else-left-text+then-not-is_end}
use Rattle.dnw_zone_data.proofs.number_form.first_number.Goals as goal

pub returns-then-left-text-clause-none : goal.returns-then-left-text-clause-none
returns-then-left-text-clause-none c =
    short_read c.args.text.now c.loop-c.left.now c.loop-c.number c.loop-c.invariant.0 (elim c.match-split_first.branch [
      | in-Some+then-number-gt-MOST_BEFORE_DIGIT w ↦ elim w.then-number-gt-MOST_BEFORE_DIGIT.branch [
        | then-number-gt-MOST_BEFORE_DIGIT-via-then-number-gt-MOST_BEFORE_DIGIT v ↦ λ d cs first is. v.if-number-gt-MOST_BEFORE_DIGIT.true
        | then-number-gt-MOST_BEFORE_DIGIT-via-else-number-gt-MOST_BEFORE_DIGIT+then-not-is_ascii_digit v ↦
            stops_at c.loop-c.number _ _ _ w.in-Some.ensures.cases.0 (sym v.is_ascii_digit.ensures.value ∙ v.if-not-is_ascii_digit.true)
      ]
      | in_default w ↦ stops_without c.loop-c.number c.loop-c.left.now w.in_default.ensures.cases
    ]) (elim c.then-left-text.branch [
      | then-left-text-via-then-left-text w ↦ inl w.if-left-text.true
      | then-left-text-via-else-left-text+then-not-is_end w ↦ inr (sym w.is_end.ensures ∙ w.if-not-is_end.true)
    ])

pub returns-clause-number : goal.returns-clause-number
returns-clause-number c =
    (number_end c.args.text.now c.loop-c.left.now c.loop-c.number c.loop-c.invariant.0 c.if-left-text.false (sym c.is_end.ensures ∙ c.if-not-is_end.false) c.loop-c.invariant.1).0

pub returns-clause-rest : goal.returns-clause-rest
returns-clause-rest c =
    (number_end c.args.text.now c.loop-c.left.now c.loop-c.number c.loop-c.invariant.0 c.if-left-text.false (sym c.is_end.ensures ∙ c.if-not-is_end.false) c.loop-c.invariant.1).1
