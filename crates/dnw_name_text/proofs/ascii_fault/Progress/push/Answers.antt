use Rattle.std.proofs.Common.{◌∙◌, ◌++◌, encode_utf8, refl, sym}
use Rattle.dnw_name_text.proofs.Units.{label_too_long, bad_character, name_too_long, pushed}
use Rattle.dnw_name_text.proofs.ascii_fault.Progress.push.Goals as goal

pub returns-then-label-gt-MAX_LABEL-clause-err : goal.returns-then-label-gt-MAX_LABEL-clause-err
returns-then-label-gt-MAX_LABEL-clause-err c = λ ls label h. label_too_long _ _ _ c.len_utf8.ensures.value ls label h c.if-label-gt-MAX_LABEL.true

pub returns-then-not-may_stand-clause-err : goal.returns-then-not-may_stand-clause-err
returns-then-not-may_stand-clause-err c = λ ls label h.
    bad_character _ _ _ c.len_utf8.ensures.value ls label h c.if-label-gt-MAX_LABEL.false (sym c.if-not-may_stand.true ∙ c.may_stand.ensures)

pub returns-then-self-label-gt-MAX_NAME-clause-err : goal.returns-then-self-label-gt-MAX_NAME-clause-err
returns-then-self-label-gt-MAX_NAME-clause-err c = λ ls label h.
    name_too_long _ _ _ c.len_utf8.ensures.value ls label h c.if-label-gt-MAX_LABEL.false (sym c.if-not-may_stand.false ∙ c.may_stand.ensures)
    c.if-self-label-gt-MAX_NAME.true

pub returns-clause-ok : goal.returns-clause-ok
returns-clause-ok c = λ ls label h.
    let held = pushed _ _ _ c.len_utf8.ensures.value ls label h c.if-label-gt-MAX_LABEL.false (sym c.if-not-may_stand.false ∙ c.may_stand.ensures) c.if-self-label-gt-MAX_NAME.false in
    (ls, label ++ encode_utf8 c.args.c, held, λ es. refl)
